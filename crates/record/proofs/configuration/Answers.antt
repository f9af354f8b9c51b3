-- `record::configuration` meets its contract: what is left of the line says what the whole does, and each turn reads one word of it.
-- Assumes nothing.
use mathlib.Core.Path.{◌≡◌, sym, subst, ap, ◌∙◌}
use mathlib.Core.Bool.{false}
use mathlib.Core.List.{List}
use Prim.Native.Nat.{ℕ, ◌+◌, ◌-◌}
use Rattle.std.specs.Prelude.{Option}
use lib.IntN.{ℤ}
use mir.Syntax.{w32}
use mir.Val.{to_z, of_z}
use lib.ListN.{take, drop, get_or, set}
use Rattle.text.specs.Line.{before as up_to}
use Rattle.text.specs.Word.{word_end}
use Rattle.record.specs.Record.{kinds, setting_of}
use Rattle.record.proofs.Words.{word_is}
use Rattle.record.proofs.Turns.{with_sensor, Reading, starts, all_read, no_setting, last_setting, next_setting}
use borrow.Author.Rules.{rules}
use native.Mathlib.Omega.{arith}
use Rattle.record.proofs.configuration.Goals as goal

-- the word at the place, as a setting
setting_is : (s : List ℕ) (at i e : ℕ) (n : Option ℤ) → e ≡ word_end at s → n ≡ setting_of (get_or kinds i false) (take (e - at) (drop at s))
    → setting_of (get_or kinds i false) (up_to 32 (drop at s)) ≡ n
setting_is s at i e n w p = sym (p ∙ ap (setting_of (get_or kinds i false)) (word_is s at e w))

pub loop-i-init : goal.loop-i-init
loop-i-init c = (omega arith, omega arith, starts _ _)

pub returns-in_err-settings : goal.returns-in_err-settings
returns-in_err-settings c =
    let w = c.word_end-e.ensures.value in
    let x = setting_is c.args.s.now c.loop-i.at c.loop-i.i _ _ w c.setting.ensures ∙ c.in_err-settings.was in
    let r = no_setting c.args.s.now _ c.loop-i.settings c.loop-i.at c.loop-i.i c.loop-i.invariant.2 (omega arith) _ w x in
    record { value = c.from_residual.ensures ∙ r.0; settings_after = r.1 }

pub returns-then-e-s : goal.returns-then-e-s
returns-then-e-s c =
    let w = c.word_end-e.ensures.value in
    let x = setting_is c.args.s.now c.loop-i.at c.loop-i.i _ _ w c.setting.ensures ∙ c.in_ok-settings.was in
    let t = last_setting c.args.s.now _ c.loop-i.settings c.loop-i.at c.loop-i.i c.loop-i.invariant.2 (omega arith) _ w c.in_ok-settings.field-0 x (omega arith) (omega arith) in
    let e : to_z w32 (of_z w32 c.in_ok-settings.field-0) ≡ c.in_ok-settings.field-0 = search rules in
    record {
      value = c.ended.ensures.value ∙ t.0;
      settings_after = c.ended.ensures.settings_after ∙ ap (λ (z : ℤ). with_sensor (c.loop-i.i + 1) (set c.loop-i.settings c.loop-i.i z)) e ∙ t.1;
    }

pub loop-i-preserved : goal.loop-i-preserved
loop-i-preserved c =
    let w = c.word_end-e.ensures.value in
    let x = setting_is c.args.s.now c.loop-i.at c.loop-i.i _ _ w c.setting.ensures ∙ c.in_ok-settings.was in
    let e : to_z w32 (of_z w32 c.in_ok-settings.field-0) ≡ c.in_ok-settings.field-0 = search rules in (
      omega arith,
      omega arith,
      subst (λ (z : ℤ). Reading c.args.s.now c.args.settings.now (set c.loop-i.settings c.loop-i.i z) (c.word_end-e.result + 1) (c.loop-i.i + 1)) (sym e)
          (next_setting c.args.s.now _ c.loop-i.settings c.loop-i.at c.loop-i.i c.loop-i.invariant.2 (omega arith) _ w c.in_ok-settings.field-0 x (omega arith)),
    )

pub returns : goal.returns
returns c =
    let r = all_read _ _ c.loop-i.settings c.loop-i.at c.loop-i.i c.loop-i.invariant.2 (omega arith) in
    record { value = r.0; settings_after = r.1 }
