-- `config::judged` meets its contract: past each rule that is kept the verdict is that of the rules behind it, and at one that is
-- broken it is that rule's number. Assumes nothing.
use Rattle.std.proofs.Common.{rules as the_rules, ◌≡◌, true, refl, sym, ap, Bool, false, [], ◌∷◌, ◌∙◌, drop, Err}
use Rattle.config.specs.Config.{rules, first_broken, judged}
use Rattle.config.specs.Meaning.{kept_at}
use Rattle.config.specs.Verdict.{unless, verdict_of}
use Rattle.config.specs.declared.Rule.TheVariants.{Node, Places, RoundingStep, PointCount, Points, Total, LowCut, Alarms, Capture, Analog}
use Rattle.config.proofs.Verdicts.{passes, breaks, passed, failed}
use Rattle.config.proofs.judged.Goals as goal
use Rattle.config.proofs.judged.Lts as lts
use Rattle.config.proofs.judged.Reads as reads
use Rattle.config.proofs.judged.Tie as tie

-- ---- what each call tells of its rule

abbrev Asked1 : Type 0
Asked1 = lts.After-unless tie.the-claims reads.Pre reads.Post tie.handed_clauses

told1 : (c : Asked1) → c.unless.result ≡ unless Node (kept_at (rules c.args.c) 0)
unfolding rules
told1 c = c.unless.ensures ∙ ap (unless Node) (search the_rules)

abbrev Asked2 : Type 0
Asked2 = lts.After-unless2 tie.the-claims reads.Pre reads.Post tie.handed_clauses

told2 : (c : Asked2) → c.unless-2.result ≡ unless Places (kept_at (rules c.args.c) 1)
unfolding rules
told2 c = c.unless-2.ensures ∙ ap (unless Places) (search the_rules)

abbrev Asked3 : Type 0
Asked3 = lts.After-unless3 tie.the-claims reads.Pre reads.Post tie.handed_clauses

told3 : (c : Asked3) → c.unless-3.result ≡ unless RoundingStep (kept_at (rules c.args.c) 2)
unfolding rules
told3 c = c.unless-3.ensures ∙ ap (unless RoundingStep) (search the_rules)

abbrev Asked4 : Type 0
Asked4 = lts.After-unless4 tie.the-claims reads.Pre reads.Post tie.handed_clauses

told4 : (c : Asked4) → c.unless-4.result ≡ unless PointCount (kept_at (rules c.args.c) 3)
unfolding rules
told4 c = c.unless-4.ensures ∙ ap (unless PointCount) (search the_rules)

abbrev Asked5 : Type 0
Asked5 = lts.After-unless5 tie.the-claims reads.Pre reads.Post tie.handed_clauses

told5 : (c : Asked5) → c.unless-5.result ≡ unless Points (kept_at (rules c.args.c) 4)
unfolding rules
told5 c = c.unless-5.ensures ∙ ap (unless Points) (search the_rules)

abbrev Asked6 : Type 0
Asked6 = lts.After-unless6 tie.the-claims reads.Pre reads.Post tie.handed_clauses

told6 : (c : Asked6) → c.unless-6.result ≡ unless Total (kept_at (rules c.args.c) 5)
unfolding rules
told6 c = c.unless-6.ensures ∙ ap (unless Total) (search the_rules)

abbrev Asked7 : Type 0
Asked7 = lts.After-unless7 tie.the-claims reads.Pre reads.Post tie.handed_clauses

told7 : (c : Asked7) → c.unless-7.result ≡ unless LowCut (kept_at (rules c.args.c) 6)
unfolding rules
told7 c = c.unless-7.ensures ∙ ap (unless LowCut) (search the_rules)

abbrev Asked8 : Type 0
Asked8 = lts.After-unless8 tie.the-claims reads.Pre reads.Post tie.handed_clauses

told8 : (c : Asked8) → c.unless-8.result ≡ unless Alarms (kept_at (rules c.args.c) 7)
unfolding rules
told8 c = c.unless-8.ensures ∙ ap (unless Alarms) (search the_rules)

abbrev Asked9 : Type 0
Asked9 = lts.After-unless9 tie.the-claims reads.Pre reads.Post tie.handed_clauses

told9 : (c : Asked9) → c.unless-9.result ≡ unless Capture (kept_at (rules c.args.c) 8)
unfolding rules
told9 c = c.unless-9.ensures ∙ ap (unless Capture) (search the_rules)

abbrev Asked10 : Type 0
Asked10 = lts.After-unless10 tie.the-claims reads.Pre reads.Post tie.handed_clauses

told10 : (c : Asked10) → c.unless-10.result ≡ unless Analog (kept_at (rules c.args.c) 9)
unfolding rules
told10 c = c.unless-10.ensures ∙ ap (unless Analog) (search the_rules)

-- ---- past a rule that is kept

abbrev Past1 : Type 0
Past1 = lts.Past-After-known_told tie.the-claims reads.Pre reads.Post tie.handed_clauses

kept1 : (c : Past1) → kept_at (rules c.args.c) 0 ≡ true
kept1 c = passed Node _ _ (sym (told1 c.before.before) ∙ c.in_ok-unless.was)

past1 : (c : Past1) → judged c.args.c ≡ first_broken 2 (drop 1 (rules c.args.c))
unfolding judged rules
past1 c = passes 1 _ _ (kept1 c)

abbrev Past2 : Type 0
Past2 = lts.Past-After-known_told3 tie.the-claims reads.Pre reads.Post tie.handed_clauses

kept2 : (c : Past2) → kept_at (rules c.args.c) 1 ≡ true
kept2 c = passed Places _ _ (sym (told2 c.before.before) ∙ c.in_ok-unless-2.was)

past2 : (c : Past2) → judged c.args.c ≡ first_broken 3 (drop 2 (rules c.args.c))
unfolding rules
past2 c = past1 c.before.before.before.before.before.before ∙ passes 2 _ _ (kept2 c)

abbrev Past3 : Type 0
Past3 = lts.Past-After-known_told5 tie.the-claims reads.Pre reads.Post tie.handed_clauses

kept3 : (c : Past3) → kept_at (rules c.args.c) 2 ≡ true
kept3 c = passed RoundingStep _ _ (sym (told3 c.before.before) ∙ c.in_ok-unless-3.was)

past3 : (c : Past3) → judged c.args.c ≡ first_broken 4 (drop 3 (rules c.args.c))
unfolding rules
past3 c = past2 c.before.before.before.before.before ∙ passes 3 _ _ (kept3 c)

abbrev Past4 : Type 0
Past4 = lts.Past-After-known_told7 tie.the-claims reads.Pre reads.Post tie.handed_clauses

kept4 : (c : Past4) → kept_at (rules c.args.c) 3 ≡ true
kept4 c = passed PointCount _ _ (sym (told4 c.before.before) ∙ c.in_ok-unless-4.was)

past4 : (c : Past4) → judged c.args.c ≡ first_broken 5 (drop 4 (rules c.args.c))
unfolding rules
past4 c = past3 c.before.before.before.before.before.before ∙ passes 4 _ _ (kept4 c)

abbrev Past5 : Type 0
Past5 = lts.Past-After-known_told9 tie.the-claims reads.Pre reads.Post tie.handed_clauses

kept5 : (c : Past5) → kept_at (rules c.args.c) 4 ≡ true
kept5 c = passed Points _ _ (sym (told5 c.before.before) ∙ c.in_ok-unless-5.was)

past5 : (c : Past5) → judged c.args.c ≡ first_broken 6 (drop 5 (rules c.args.c))
unfolding rules
past5 c = past4 c.before.before.before.before.before ∙ passes 5 _ _ (kept5 c)

abbrev Past6 : Type 0
Past6 = lts.Past-After-known_told11 tie.the-claims reads.Pre reads.Post tie.handed_clauses

kept6 : (c : Past6) → kept_at (rules c.args.c) 5 ≡ true
kept6 c = passed Total _ _ (sym (told6 c.before.before) ∙ c.in_ok-unless-6.was)

past6 : (c : Past6) → judged c.args.c ≡ first_broken 7 (drop 6 (rules c.args.c))
unfolding rules
past6 c = past5 c.before.before.before.before.before ∙ passes 6 _ _ (kept6 c)

abbrev Past7 : Type 0
Past7 = lts.Past-After-known_told13 tie.the-claims reads.Pre reads.Post tie.handed_clauses

kept7 : (c : Past7) → kept_at (rules c.args.c) 6 ≡ true
kept7 c = passed LowCut _ _ (sym (told7 c.before.before) ∙ c.in_ok-unless-7.was)

past7 : (c : Past7) → judged c.args.c ≡ first_broken 8 (drop 7 (rules c.args.c))
unfolding rules
past7 c = past6 c.before.before.before.before.before ∙ passes 7 _ _ (kept7 c)

abbrev Past8 : Type 0
Past8 = lts.Past-After-known_told15 tie.the-claims reads.Pre reads.Post tie.handed_clauses

kept8 : (c : Past8) → kept_at (rules c.args.c) 7 ≡ true
kept8 c = passed Alarms _ _ (sym (told8 c.before.before) ∙ c.in_ok-unless-8.was)

past8 : (c : Past8) → judged c.args.c ≡ first_broken 9 (drop 8 (rules c.args.c))
unfolding rules
past8 c = past7 c.before.before.before.before.before.before ∙ passes 8 _ _ (kept8 c)

abbrev Past9 : Type 0
Past9 = lts.Past-After-known_told17 tie.the-claims reads.Pre reads.Post tie.handed_clauses

kept9 : (c : Past9) → kept_at (rules c.args.c) 8 ≡ true
kept9 c = passed Capture _ _ (sym (told9 c.before.before) ∙ c.in_ok-unless-9.was)

past9 : (c : Past9) → judged c.args.c ≡ first_broken 10 (drop 9 (rules c.args.c))
unfolding rules
past9 c = past8 c.before.before.before.before.before ∙ passes 9 _ _ (kept9 c)

last : (kept : Bool) → verdict_of (unless Analog kept) ≡ first_broken 10 (kept ∷ [])
unfolding first_broken
last true = refl
last false = refl

-- ---- the answers

pub returns-in_err-unless : goal.returns-in_err-unless
unfolding judged rules
returns-in_err-unless c =
    let broken : (kept_at (rules c.args.c) 0 ≡ false) × (c.in_err-unless.field-0.0 ≡ Node) =
    failed Node _ _ (sym (told1 c.before.before.before) ∙ c.in_err-unless.was)
    in
    let e : c.from_residual.result ≡ Err Node = search (the_rules, broken.1) in
    ap verdict_of e ∙ sym (breaks 1 _ _ broken.0)

pub returns-in_err-unless-2 : goal.returns-in_err-unless-2
unfolding rules
returns-in_err-unless-2 c =
    let broken : (kept_at (rules c.args.c) 1 ≡ false) × (c.in_err-unless-2.field-0.0 ≡ Places) =
    failed Places _ _ (sym (told2 c.before.before.before) ∙ c.in_err-unless-2.was)
    in
    let e : c.from_residual-in_err-unless-2.result ≡ Err Places = search (the_rules, broken.1) in
    ap verdict_of e ∙ sym (past1 c.before.before.before.before.before.before.before ∙ breaks 2 _ _ broken.0)

pub returns-in_err-unless-3 : goal.returns-in_err-unless-3
unfolding rules
returns-in_err-unless-3 c =
    let broken : (kept_at (rules c.args.c) 2 ≡ false) × (c.in_err-unless-3.field-0.0 ≡ RoundingStep) =
    failed RoundingStep _ _ (sym (told3 c.before.before.before) ∙ c.in_err-unless-3.was)
    in
    let e : c.from_residual-in_err-unless-3.result ≡ Err RoundingStep = search (the_rules, broken.1) in
    ap verdict_of e ∙ sym (past2 c.before.before.before.before.before.before ∙ breaks 3 _ _ broken.0)

pub returns-in_err-unless-4 : goal.returns-in_err-unless-4
unfolding rules
returns-in_err-unless-4 c =
    let broken : (kept_at (rules c.args.c) 3 ≡ false) × (c.in_err-unless-4.field-0.0 ≡ PointCount) =
    failed PointCount _ _ (sym (told4 c.before.before.before) ∙ c.in_err-unless-4.was)
    in
    let e : c.from_residual-in_err-unless-4.result ≡ Err PointCount = search (the_rules, broken.1) in
    ap verdict_of e ∙ sym (past3 c.before.before.before.before.before.before.before ∙ breaks 4 _ _ broken.0)

pub points_rule-requires : goal.points_rule-requires
unfolding rules
points_rule-requires c = kept4 c.before

pub returns-in_err-unless-5 : goal.returns-in_err-unless-5
unfolding rules
returns-in_err-unless-5 c =
    let broken : (kept_at (rules c.args.c) 4 ≡ false) × (c.in_err-unless-5.field-0.0 ≡ Points) =
    failed Points _ _ (sym (told5 c.before.before.before) ∙ c.in_err-unless-5.was)
    in
    let e : c.from_residual-in_err-unless-5.result ≡ Err Points = search (the_rules, broken.1) in
    ap verdict_of e ∙ sym (past4 c.before.before.before.before.before.before ∙ breaks 5 _ _ broken.0)

pub returns-in_err-unless-6 : goal.returns-in_err-unless-6
unfolding rules
returns-in_err-unless-6 c =
    let broken : (kept_at (rules c.args.c) 5 ≡ false) × (c.in_err-unless-6.field-0.0 ≡ Total) =
    failed Total _ _ (sym (told6 c.before.before.before) ∙ c.in_err-unless-6.was)
    in
    let e : c.from_residual-in_err-unless-6.result ≡ Err Total = search (the_rules, broken.1) in
    ap verdict_of e ∙ sym (past5 c.before.before.before.before.before.before ∙ breaks 6 _ _ broken.0)

pub returns-in_err-unless-7 : goal.returns-in_err-unless-7
unfolding rules
returns-in_err-unless-7 c =
    let broken : (kept_at (rules c.args.c) 6 ≡ false) × (c.in_err-unless-7.field-0.0 ≡ LowCut) =
    failed LowCut _ _ (sym (told7 c.before.before.before) ∙ c.in_err-unless-7.was)
    in
    let e : c.from_residual-in_err-unless-7.result ≡ Err LowCut = search (the_rules, broken.1) in
    ap verdict_of e ∙ sym (past6 c.before.before.before.before.before.before ∙ breaks 7 _ _ broken.0)

pub returns-in_err-unless-8 : goal.returns-in_err-unless-8
unfolding rules
returns-in_err-unless-8 c =
    let broken : (kept_at (rules c.args.c) 7 ≡ false) × (c.in_err-unless-8.field-0.0 ≡ Alarms) =
    failed Alarms _ _ (sym (told8 c.before.before.before) ∙ c.in_err-unless-8.was)
    in
    let e : c.from_residual-in_err-unless-8.result ≡ Err Alarms = search (the_rules, broken.1) in
    ap verdict_of e ∙ sym (past7 c.before.before.before.before.before.before.before ∙ breaks 8 _ _ broken.0)

pub returns-in_err-unless-9 : goal.returns-in_err-unless-9
unfolding rules
returns-in_err-unless-9 c =
    let broken : (kept_at (rules c.args.c) 8 ≡ false) × (c.in_err-unless-9.field-0.0 ≡ Capture) =
    failed Capture _ _ (sym (told9 c.before.before.before) ∙ c.in_err-unless-9.was)
    in
    let e : c.from_residual-in_err-unless-9.result ≡ Err Capture = search (the_rules, broken.1) in
    ap verdict_of e ∙ sym (past8 c.before.before.before.before.before.before ∙ breaks 9 _ _ broken.0)

pub returns : goal.returns
unfolding rules first_broken
returns c = ap verdict_of (told10 c) ∙ last (kept_at (rules c.args.c) 9) ∙ sym (past9 c.before.before.before)
