-- The parser and the form agree on every string, and no string says two things.
use Rattle.form.specs.Understood.{Understood}
use Rattle.form.proofs.Meaning.{asked, bad_form, no_node, nobody, one_node, one_meaning, no_choice, addressed_to, addressed_to_none}
use Rattle.form.proofs.Numbers.{numbers, no_number, held_alike}
use Rattle.form.proofs.Permitted.{changes, permitted}

pub understood : Understood
understood =
    record {
      asked = asked;
      bad_form = bad_form;
      no_node = no_node;
      nobody = nobody;
      one_node = one_node;
      one_meaning = one_meaning;
      no_choice = no_choice;
      addressed_to = addressed_to;
      addressed_to_none = addressed_to_none;
      changes = changes;
      numbers = numbers;
      no_number = no_number;
      held_alike = held_alike;
      permitted = permitted;
    }
