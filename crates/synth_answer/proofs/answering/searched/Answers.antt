use Rattle.tlsf_expand.specs.FlatText.{spec_seen}
use Rattle.synth_answer.proofs.Fitting.{found_fits}
use Rattle.synth_answer.proofs.answering.searched.Goals as goal

pub search-requires-clause-environment : goal.search-requires-clause-environment
search-requires-clause-environment g c κs within = λ p is.
    let known = c.requires.problems.of_environment p is in
    record { within = known.within; of_side = known.of_side; counted = known.counted }

pub search-requires-clause-system : goal.search-requires-clause-system
search-requires-clause-system g c κs within =
    let known = c.requires.problems.of_system in
    record { within = known.within; of_side = known.of_side; counted = known.counted }

pub reply_to-requires : goal.reply_to-requires
reply_to-requires g c =
    let o = c.in_ok-outcome.outcome in
    found_fits c.args.settings.counts (spec_seen c.args.spec.now).expanded c.args.problems c.requires.problems c.args.settings c.max-max.ensures.bounds.most_size c.sizes_rise.ensures
    o.found o.logs.items c.in_ok-outcome.ensures.goes

pub returns : goal.returns
returns g c = record {
  bounds = c.max-max.ensures.bounds;
  automata = c.automata_are_kept.ensures;
  outcome = c.in_ok-outcome.outcome;
  is_outcome = c.in_ok-outcome.ensures;
  reply = c.in_ok-answered.ensures;
}
