-- A state that follows a course depends on the part's own events alone. Assumes nothing.
use mathlib.Core.Path.{◌≡◌, refl, sym, ap, ◌∙◌}
use mathlib.Core.List.{List, [], ◌∷◌}
use mathlib.Core.Option.{Option, none, some}
use Rattle.course.specs.Course.{Course, add, events, stepped, Follows}

module _ {State Event : Type 0} (step : State → Event → State) where
  -- one event more makes a step
  stepped_more : (after : List Event → State) → ((e : Event) (es : List Event) → after (e ∷ es) ≡ step (after es) e)
      → (o : Option Event) (es : List Event) → stepped step (after es) o ≡ after (add o es)
  stepped_more after more none es = refl
  stepped_more after more (some e) es = sym (more e es)

  -- what is said of lists of events alone holds of any course
  pub folds : (after : List Event → State) → ((e : Event) (es : List Event) → after (e ∷ es) ≡ step (after es) e) → (c : Course Event) (state : List c.Entry → State)
      → Follows step (after []) c state → (h : List c.Entry) → state h ≡ after (events c h)
  folds after more c state f [] = f.starts
  folds after more c state f (e ∷ h) =
      f.goes h e ∙ ap (λ (s : State). stepped step s (c.what h e)) (folds after more c state f h) ∙ stepped_more after more (c.what h e) (events c h)
