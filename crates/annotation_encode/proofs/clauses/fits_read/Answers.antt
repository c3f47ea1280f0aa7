use Rattle.std.proofs.Common.{rules, ◌≡◌, false, sym, ◌∙◌}
use Rattle.letters_and_lassos.specs.Signals.{has}
use Rattle.annotation_encode.specs.BaseClauses.{read_signal, signal_fits}
use Rattle.machine_model.specs.Problem.{reads_of}
use Rattle.annotation_encode.proofs.Lists.{all_below-fails, all_below-more}
use Rattle.annotation_encode.proofs.clauses.fits_read.Goals as goal

pub loop-signal-preserved : goal.loop-signal-preserved
loop-signal-preserved c = all_below-more c.loop-signal.signal (λ s. signal_fits c.args.cube (read_signal c.args.problem.now s) (has c.args.letter s)) c.loop-signal.invariant (search rules)

pub returns-then-not-signal_fits : goal.returns-then-not-signal_fits
returns-then-not-signal_fits c =
    let fails : signal_fits c.args.cube (read_signal c.args.problem.now c.loop-signal.signal) (has c.args.letter c.loop-signal.signal) ≡ false
    = sym (c.signal_fits.ensures ∙ (λ i. signal_fits c.args.cube (c.read_signal-whole.ensures i) (c.number_has.ensures i))) ∙ c.if-not-signal_fits.true in
    sym (all_below-fails (reads_of c.args.problem.now) c.loop-signal.signal (λ s. signal_fits c.args.cube (read_signal c.args.problem.now s) (has c.args.letter s)) (search rules) fails)
