use Rattle.answer_laws.proofs.Parts as parts
use Rattle.answer_laws.proofs.laws.printed_is_accepted.Goals as goal

pub returns : goal.returns
returns c =
    parts.printed_is_accepted (record {
      trees = c.trees_are_determined.ensures;
      flats = c.flat_texts_are_determined.ensures;
      no_fault = c.flat_texts_have_no_fault.ensures;
      apart = c.answers_are_apart.ensures;
      forms = c.problems_of_formulas_are_determined.ensures;
      files = c.files_state_one_thing.ensures;
      documents = c.documents_are_determined.ensures;
      bad_lines = c.bad_lines_are_determined.ensures;
    })
