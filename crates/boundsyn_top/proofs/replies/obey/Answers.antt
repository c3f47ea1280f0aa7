use Rattle.std.proofs.lemmas.Result.{IfOk-weaker}
use Rattle.std.proofs.Common.{refl}
use Rattle.program_words.specs.Settings.{core, expand, expand_solve, solve, synth}
use Rattle.boundsyn_top.proofs.ReplyLemmas.{not_first}
use Rattle.boundsyn_top.proofs.replies.obey.Goals as goal

pub returns-in-Synth-clause-other_files : goal.returns-in-Synth-clause-other_files
returns-in-Synth-clause-other_files g c = λ name foreign.
    c.synthesize.ensures.other_files name
    (not_first _ (synth c.in-Synth.spec.now c.in-Synth.wanted c.in-Synth.kind) c.in-Synth.spec.now name refl (rw c.in-Synth.is at foreign))

pub returns-in-Check-clause-other_files : goal.returns-in-Check-clause-other_files
returns-in-Check-clause-other_files g c = λ name foreign. c.check_certificate.ensures.other_files name (rw c.in-Check.is at foreign)

pub returns-in-Expand-clause-other_files : goal.returns-in-Expand-clause-other_files
returns-in-Expand-clause-other_files g c = λ name foreign.
    c.expand_spec.ensures.other_files name (not_first _ (expand c.in-Expand.spec.now) c.in-Expand.spec.now name refl (rw c.in-Expand.is at foreign))

pub returns-in-ExpandSolve-clause-other_files : goal.returns-in-ExpandSolve-clause-other_files
returns-in-ExpandSolve-clause-other_files g c = λ name foreign.
    c.expand_solved.ensures.other_files name
    (not_first _ (expand_solve c.in-ExpandSolve.spec.now c.in-ExpandSolve.kind c.in-ExpandSolve.nodes) c.in-ExpandSolve.spec.now name refl (rw c.in-ExpandSolve.is at foreign))

pub returns-in-LassoSolve-clause-other_files : goal.returns-in-LassoSolve-clause-other_files
returns-in-LassoSolve-clause-other_files g c = λ name foreign. c.tell_solved.ensures.other_files name (rw c.in-LassoSolve.is at foreign)

pub returns-in-Lasso-clause-other_files : goal.returns-in-Lasso-clause-other_files
returns-in-Lasso-clause-other_files g c = λ name foreign. c.tell_truth.ensures.other_files name (rw c.in-Lasso.is at foreign)

pub returns-in-Verify-clause-other_files : goal.returns-in-Verify-clause-other_files
returns-in-Verify-clause-other_files g c = λ name foreign. c.verify_circuit.ensures.other_files name (rw c.in-Verify.is at foreign)

pub returns-in-Core-clause-other_files : goal.returns-in-Core-clause-other_files
returns-in-Core-clause-other_files g c = λ name foreign.
    c.find_core.ensures.other_files name
    (not_first _ (core c.in-Core.spec.now c.in-Core.wanted c.in-Core.kind) c.in-Core.spec.now name refl (rw c.in-Core.is at foreign))

pub returns-in-Solve-clause-other_files : goal.returns-in-Solve-clause-other_files
returns-in-Solve-clause-other_files g c = λ name foreign.
    c.solve_spec.ensures.other_files name
    (not_first _ (solve c.in-Solve.spec.now c.in-Solve.kind (record { max = c.in-Solve.max; entries = c.in-Solve.entries; workers = c.in-Solve.workers; seconds = c.in-Solve.seconds })) c.in-Solve.spec.now name refl (rw c.in-Solve.is at foreign))

pub returns-in-Batch-clause-other_files : goal.returns-in-Batch-clause-other_files
returns-in-Batch-clause-other_files g c = λ name foreign. c.answer_list.ensures.other_files name (rw c.in-Batch.is at foreign)

pub returns-in-SolveList-clause-other_files : goal.returns-in-SolveList-clause-other_files
returns-in-SolveList-clause-other_files g c = λ name foreign. c.answer_list-in-SolveList.ensures.other_files name (rw c.in-SolveList.is at foreign)

pub returns-in-Gen-clause-output : goal.returns-in-Gen-clause-output
returns-in-Gen-clause-output g c = rw c.in-Gen.is (IfOk-weaker c.generate.result _ _ (λ o output. output _) c.generate.ensures)

pub returns-in-Bench-clause-output : goal.returns-in-Bench-clause-output
returns-in-Bench-clause-output g c =
    rw c.in-Bench.is (IfOk-weaker c.search_arbiter.result _ _ (λ o output. output _) c.search_arbiter.ensures)
