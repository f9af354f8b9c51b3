-- What the three lists hold is told by the alarms, one after another.
use Rattle.std.proofs.Common.{rules, pos, [], ◌∷◌, ◌++◌}
use Rattle.alarm.specs.Alarm.{off}
use Rattle.alarms.specs.Alarms.{alarm_at}
use Rattle.register.specs.Bytes.{ascii}
use Rattle.signed.specs.Signed.{signed}
use Rattle.text.proofs.Pieces.{one, next, alike}
use Rattle.show.specs.Show.{named, counted, on_digit, setpoint_words, state_words, run_words, alarm_words}
use Rattle.show.proofs.Pieces.{four, numbers_four}
use Rattle.show.proofs.put_alarms.Goals as goal

pub returns : goal.returns
unfolding named counted signed setpoint_words state_words run_words alarm_words
returns c =
    let l = c.args.alarms.now in
    let setpoints = numbers_four (ascii " SP=") c.map.result (λ i. (alarm_at l i).setpoint) c.map.ensures.items.long
    (λ i h. let called = c.map.ensures.items.at i (off (pos 0)) (pos 0) h in search rules) in
    let on = four c.map-2.result 0 (λ i. on_digit (alarm_at l i)) c.map-2.ensures.items.long
    (λ i h. let called = c.map-2.ensures.items.at i (off (pos 0)) 0 h in search rules) in
    let runs = numbers_four (ascii " RUN=") c.map-3.result (λ i. pos (alarm_at l i).run) c.map-3.ensures.items.long
    (λ i h. let called = c.map-3.ensures.items.at i (off (pos 0)) (pos 0) h in search rules) in
    next _ _ _ (setpoint_words l ++ state_words l) (run_words l)
    (next _ _ _ (setpoint_words l) (state_words l) (alike _ _ _ _ setpoints c.put_numbers.ensures)
    (next _ _ _ (ascii " AL=" ∷ []) (_ ∷ []) (one _ _ _ c.put.ensures) (one _ _ _ (rw on at c.put-2.ensures))))
    (alike _ _ _ _ runs c.put_numbers-2.ensures)
