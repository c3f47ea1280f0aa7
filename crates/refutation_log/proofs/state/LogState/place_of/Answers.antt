use Rattle.std.specs.Prelude.{position}
use Rattle.std.proofs.Common.{◌∙◌, ap}
use Rattle.propositional_logic.specs.Clause.{clause_eq}
use Rattle.refutation_log.proofs.StateLemmas.{keys_are_clauses}
use Rattle.refutation_log.proofs.state.LogState.place_of.Goals as goal

pub returns : goal.returns
returns c = rw (← c.self.view_is) (c.get_index_of.ensures.index ∙ ap (position (clause_eq c.args.clause.now)) (keys_are_clauses c.self.inside.entries.entries))
