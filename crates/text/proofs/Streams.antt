-- A program's state over a stream: after each block it is the state of the lines that ended, and where the stream is cut into blocks
-- makes no difference. Assumes nothing.
use mathlib.Core.Path.{◌≡◌, refl, sym, ap, ◌∙◌}
use mathlib.Core.Bool.{Bool, true, false, cond}
use mathlib.Core.List.{List, [], ◌∷◌, ◌++◌}
use Prim.Native.Nat.{ℕ, ◌+◌, ◌-◌, ◌≤◌}
use native.Mathlib.Omega.{arith}
use lib.Dec.{leb, eqb}
use lib.ListN.{length, take, drop}
use lib.Seq.{drop-length, drop-drop, length-take-le}
use borrow.Author.Tests.{eq-eqb, ne_eqb, leb-true}
use Rattle.text.proofs.Truth.{never}
use Rattle.text.specs.Line.{kept_bytes, Scanned, scan, Heard, bytes, long, heard, kept, before, after, has, Feeds, Cut, cut, lines, unended, all_lines, goes_on, no_line, Stands, ran, Carried, Turned, Streamed, finished}
use Rattle.text.specs.declared.Line.{Line}
use Rattle.text.specs.declared.Step.{Step}
use Rattle.text.proofs.Laws.{rest}
use Rattle.text.proofs.Lines.{feeds, empty_kept, cut_ended, cut_open, cut_blocks, cut_behind}

after_none : (x : ℕ) (s : List ℕ) → has x s ≡ false → after x s ≡ []
unfolding has after
after_none x [] e = refl
after_none x (b ∷ s) e = go (eqb b x) (after_none x s) e
  where
    go : (t : Bool) → (has x s ≡ false → after x s ≡ []) → cond t true (has x s) ≡ false → cond t s (after x s) ≡ []
    go true next e = never (sym e)
    go false next e = next e

-- ---- a line of no bytes has the count 0, and no other line has

abbrev size_of : Heard → ℕ
size_of (bytes l) = length l
size_of long = kept_bytes + 1

heard_empty : (line : Line) → length line.room ≡ kept_bytes → size_of (heard line) ≡ 0 → line.len ≡ 0
unfolding heard
heard_empty line h e = go (leb line.len kept_bytes) refl e
  where
    go : (t : Bool) → leb line.len kept_bytes ≡ t → size_of (cond t (bytes (take line.len line.room)) long) ≡ 0 → line.len ≡ 0
    go true p e =
        let k : line.len ≤ length line.room = omega (arith, leb-true line.len kept_bytes p) in
        sym (length-take-le line.len line.room k) ∙ e
    go false p e = absurd (omega arith)

kept_empty : (l : List ℕ) → size_of (kept l) ≡ 0 → length l ≡ 0
unfolding kept
kept_empty l e = go (leb (length l) kept_bytes) e
  where
    go : (t : Bool) → size_of (cond t (bytes l) long) ≡ 0 → length l ≡ 0
    go true e = e
    go false e = absurd (omega arith)

-- ---- whether the input goes on

pub ended : (n : ℕ) (ok : Bool) → n ≡ 0 → false ≡ goes_on n ok
ended n ok e = rw (eq-eqb n 0 e)

pub goes_on_lem : (n : ℕ) (ok : Bool) → (n ≡ 0 → ⊥) → ok ≡ goes_on n ok
goes_on_lem n ok e = rw (ne_eqb n 0 e)

-- ---- a program's state

module _ {A : Type 0} (event : A → Heard → A) where
  ran_append : (a : A) (d e : List (List ℕ)) → ran event a (d ++ e) ≡ ran event (ran event a d) e
  unfolding ran
  ran_append a [] e = refl
  ran_append a (l ∷ d) e = ran_append (event a (kept l)) d e

  ran_snoc : (a : A) (d : List (List ℕ)) (l : List ℕ) → ran event a (d ++ (l ∷ [])) ≡ event (ran event a d) (kept l)
  unfolding ran
  ran_snoc a [] l = refl
  ran_snoc a (x ∷ d) l = ran_snoc (event a (kept x)) d l

  -- where the loop over a block stands: the lines that ended, and the bytes since
  pub record Reached (block l : List ℕ) (a₀ a : A) (line : Line) (at : ℕ) : Type 0 where
    pub done : List (List ℕ)
    pub since : List ℕ
    pub cuts : lines l block ≡ cut 10 (record { done = done; since = since }) (drop at block)
    pub stands : Stands since line
    pub state : a ≡ ran event a₀ done

  -- the same after whatever bytes were held for before the block
  abbrev pub Reaches : (block : List ℕ) (line₀ : Line) (a₀ a : A) (line : Line) (at : ℕ) → Type 0
  Reaches block line₀ a₀ a line at = (l : List ℕ) → Stands l line₀ → Reached block l a₀ a line at

  pub begins : (block : List ℕ) (line : Line) (a : A) → Reaches block line a a line 0
  unfolding ran
  begins block line a l h = record { done = []; since = l; cuts = refl; stands = h; state = refl }

  pub ends : {block : List ℕ} {line₀ : Line} {a₀ a : A} {line : Line} {at : ℕ} → at ≡ length block
      → Reaches block line₀ a₀ a line at → Carried event block line₀ a₀ a line
  unfolding cut
  ends {block} {line₀} {a₀} e reached l h =
      let r = reached l h in
      let c : lines l block ≡ record { done = r.done; since = r.since } =
      r.cuts ∙ ap (λ (s : List ℕ). cut 10 (record { done = r.done; since = r.since }) s) (ap (λ (k : ℕ). drop k block) e ∙ drop-length block) in
      record {
        state = r.state ∙ ap (λ (x : Cut). ran event a₀ x.done) (sym c);
        stands = rw c r.stands;
      }

  module _ (block l : List ℕ) (a₀ a : A) (line : Line) (at : ℕ) (r : Reached block l a₀ a line at) where
    step_on : (x : Scanned) → Feeds (drop at block) r.since x → (t : Bool) → has 10 (drop at block) ≡ t
        → Reached block l a₀ (cond t (event a (heard x.line)) a) (record { room = x.line.room; len = cond t 0 x.line.len }) (at + x.step.used)
    unfolding cut
    step_on x f true p =
        record {
          done = r.done ++ ((r.since ++ before 10 (drop at block)) ∷ []);
          since = [];
          cuts = r.cuts ∙ cut_ended 10 r.done r.since (drop at block) p
              ∙ ap (cut 10 (record { done = r.done ++ ((r.since ++ before 10 (drop at block)) ∷ []); since = [] })) (sym f.rest ∙ drop-drop x.step.used at block);
          stands = record { keeps = empty_kept x.line.room; size = f.size };
          state = ap (event a) f.line ∙ ap (λ (n : A). event n (kept (r.since ++ before 10 (drop at block)))) r.state
              ∙ sym (ran_snoc a₀ r.done (r.since ++ before 10 (drop at block)));
        }
    step_on x f false p =
        record {
          done = r.done;
          since = r.since ++ before 10 (drop at block);
          cuts = r.cuts ∙ cut_open 10 r.done r.since (drop at block) p
              ∙ sym (ap (cut 10 (record { done = r.done; since = r.since ++ before 10 (drop at block) }))
              (sym (drop-drop x.step.used at block) ∙ f.rest ∙ after_none 10 (drop at block) p));
          stands = record { keeps = f.line; size = f.size };
          state = r.state;
        }

  module _ {block : List ℕ} {line₀ : Line} {a₀ a a' : A} {line fed line' : Line} {at : ℕ} {f : Step}
      (reached : Reaches block line₀ a₀ a line at)
      (p : f ≡ (scan 0 (take (length block - at) (drop at block)) line).step)
      (q : fed ≡ (scan 0 (take (length block - at) (drop at block)) line).line) where
    turned : (t : Bool) → f.ended ≡ t → line' ≡ record { room = fed.room; len = cond t 0 fed.len } → a' ≡ cond t (event a (heard fed)) a → Reaches block line₀ a₀ a' line' (at + f.used)
    turned t e u v l h =
        let r = reached l h in
        let x = scan 0 (drop at block) line in
        let g = feeds (drop at block) line r.since r.stands.size r.stands.keeps in
        let w : x.step.ended ≡ t = rw (p, rest at block) at e in
        rw (u, v, p, q, rest at block) (step_on block l a₀ a line at r x g t (sym g.ends ∙ w))

    -- one turn, in which a line is fed: where it ended there is its event, and the next one begins
    pub turn_ended : f.ended ≡ true → line' ≡ record { room = fed.room; len = 0 } → a' ≡ event a (heard fed) → Reaches block line₀ a₀ a' line' (at + f.used)
    turn_ended = turned true

    -- and where it did not it is read on
    pub turn_open : f.ended ≡ false → line' ≡ fed → a' ≡ a → Reaches block line₀ a₀ a' line' (at + f.used)
    turn_open = turned false

  -- the last line, and none
  pub last_none : (a : A) (line : Line) → line.len ≡ 0 → a ≡ finished event a line
  unfolding finished
  last_none a line e = rw (eq-eqb line.len 0 e)

  pub last_line : (a : A) (line : Line) → (line.len ≡ 0 → ⊥) → event a (heard line) ≡ finished event a line
  unfolding finished
  last_line a line e = rw (ne_eqb line.len 0 e)

  -- two blocks one after the other do what the one block of both does: where a stream is cut makes no difference
  pub joined : {s t : List ℕ} {line line' line'' : Line} {a b c : A}
      → Carried event s line a b line'
      → Carried event t line' b c line''
      → Carried event (s ++ t) line a c line''
  joined {s} {t} {line} {line'} {line''} {a} first second l h =
      let r = first l h in
      let q = second (lines l s).since r.stands in
      let e : lines l (s ++ t) ≡ record { done = (lines l s).done ++ (lines (lines l s).since t).done; since = (lines (lines l s).since t).since } =
      cut_blocks 10 (record { done = []; since = l }) s t ∙ cut_behind 10 t (lines l s).done (lines l s).since in
      record {
        state = q.state ∙ ap (λ (k : A). ran event k (lines (lines l s).since t).done) r.state
            ∙ sym (ran_append a (lines l s).done (lines (lines l s).since t).done) ∙ ap (λ (y : Cut). ran event a y.done) (sym e);
        stands = rw e q.stands;
      }

  -- a read that gave nothing
  pub none_came : (block : List ℕ) (line : Line) (n : ℕ) (a : A) → n ≡ 0 → Carried event (take n block) line a a line
  none_came block line n a e = rw e (ends refl (begins [] line a))

  -- reads one after another
  pub no_reads : (line : Line) (a : A) → Streamed event line a a line
  no_reads line a = record { stream = []; carries = none_came [] line 0 a refl }

  pub reads_on : {block : List ℕ} {line line' line'' : Line} {a b c : A}
      → Streamed event line a b line'
      → Turned event block line' b c line''
      → Streamed event line a c line''
  reads_on {block} s t = record { stream = s.stream ++ take t.count block; carries = joined s.carries t.carries }

  -- the line that is open at the end
  last_one : (a : A) (l : List ℕ) (line : Line) → Stands l line → finished event a line ≡ ran event a (unended l)
  unfolding ran heard kept
  last_one a [] line h = sym (last_none a line (heard_empty line h.size (ap size_of h.keeps)))
  last_one a (b ∷ s) line h = sym (last_line a line some) ∙ ap (event a) h.keeps
    where
      some : line.len ≡ 0 → ⊥
      some z = omega (arith, kept_empty (b ∷ s) (ap size_of (sym h.keeps ∙ ap (λ (n : ℕ). heard (record { room = line.room; len = n })) z)))

  -- from a line of no bytes to the end, whatever its room holds: the state is that of every line of the stream
  pub whole : {line line' : Line} {a b : A} → line.len ≡ 0 → length line.room ≡ kept_bytes
      → (s : Streamed event line a b line') → finished event b line' ≡ ran event a (all_lines s.stream)
  unfolding all_lines
  whole {line} {line'} {a} {b} none size s =
      let keeps : heard line ≡ kept [] = ap (λ (n : ℕ). heard (record { room = line.room; len = n })) none ∙ empty_kept line.room in
      let r = s.carries [] (record { keeps = keeps; size = size }) in
      last_one b (lines [] s.stream).since line' r.stands
      ∙ ap (λ (x : A). ran event x (unended (lines [] s.stream).since)) r.state
      ∙ sym (ran_append a (lines [] s.stream).done (unended (lines [] s.stream).since))

  -- the same from a line of which nothing has come
  pub whole_of : {line line' : Line} {a b : A} → line ≡ no_line
      → (s : Streamed event line a b line') → finished event b line' ≡ ran event a (all_lines s.stream)
  whole_of e = whole (ap (λ (l : Line). l.len) e) (ap (λ (l : Line). length l.room) e)
