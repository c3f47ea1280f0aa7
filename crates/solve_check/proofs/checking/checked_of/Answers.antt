use Rattle.std.proofs.Common.{rules, ◌≡◌, None, subst}
use Rattle.std.specs.Prelude.{IfSome}
use Rattle.document_text.specs.Reading.{circuit_in}
use Rattle.solved_text.specs.Reading.{SolvedLines}
use Rattle.solve_check.specs.FirstBad.{LinesFail}
use Rattle.solve_check.specs.Parts.{IsClaimed, IsSoundCircuit}
use Rattle.solve_check.proofs.Answered.{bad_claim, bad_line, good, means}
use Rattle.solve_check.proofs.checking.checked_of.Goals as goal

pub returns-in-Some-clause-checked : goal.returns-in-Some-clause-checked
returns-in-Some-clause-checked c =
    bad_line c.args.text.now c.args.bytes.now c.args.lines.now c.requires.reads c.in-Some.line
    (subst (LinesFail c.args.text.now c.args.bytes.now c.args.lines.now) c.in-Some.is c.requires.tests.fails)

pub claim_line-requires : goal.claim_line-requires
claim_line-requires c = let none : c.args.tested.now.first ≡ None = search rules in c.requires.tests.reading none

pub returns-in_err-line-clause-checked : goal.returns-in_err-line-clause-checked
returns-in_err-line-clause-checked c = search rules

pub returns-in_err-line-clause-means : goal.returns-in_err-line-clause-means
returns-in_err-line-clause-means c = search rules

pub returns-in_err-told-in-None-clause-checked : goal.returns-in_err-told-in-None-clause-checked
returns-in_err-told-in-None-clause-checked c = search rules

pub returns-in_err-told-in-None-clause-means : goal.returns-in_err-told-in-None-clause-means
returns-in_err-told-in-None-clause-means c = search rules

pub returns-in-Some-2-clause-checked : goal.returns-in-Some-2-clause-checked
returns-in-Some-2-clause-checked c =
    let none : c.args.tested.now.first ≡ None = search rules in
    bad_claim c.args.text.now c.args.bytes.now c.args.lines.now c.requires.reads c.in-Some-2.line
    (subst (LinesFail c.args.text.now c.args.bytes.now c.args.lines.now) none c.requires.tests.fails)
    (subst (IsClaimed c.args.text.now c.args.bytes.now c.args.lines.now) c.in-Some-2.is c.in_ok-line.ensures)

pub returns-in_ok-told-in-None-clause-checked : goal.returns-in_ok-told-in-None-clause-checked
returns-in_ok-told-in-None-clause-checked c =
    let none : c.args.tested.now.first ≡ None = search rules in
    good c.args.text.now c.args.bytes.now c.args.lines.now c.requires.reads c.laws_hold.ensures.documents c.laws_hold.ensures.logs
    (subst (LinesFail c.args.text.now c.args.bytes.now c.args.lines.now) none c.requires.tests.fails)
    (subst (IsClaimed c.args.text.now c.args.bytes.now c.args.lines.now) c.in-None.is c.in_ok-line.ensures)
    c.in_ok-told-in-None.told c.in_ok-told-in-None.ensures

pub returns-in_ok-told-in-None-clause-means : goal.returns-in_ok-told-in-None-clause-means
returns-in_ok-told-in-None-clause-means c source given is =
    let none : c.args.tested.now.first ≡ None = search rules in
    means c.args.text.now c.args.bytes.now c.args.lines.now c.requires.reads c.laws_hold.ensures
    (subst (LinesFail c.args.text.now c.args.bytes.now c.args.lines.now) none c.requires.tests.fails)
    (subst (IsClaimed c.args.text.now c.args.bytes.now c.args.lines.now) c.in-None.is c.in_ok-line.ensures)
    c.in_ok-told-in-None.told c.in_ok-told-in-None.ensures
    (subst (λ (l : SolvedLines). IfSome (circuit_in l.circuit) IsSoundCircuit) c.lines.view_is c.circuit_is_sound.ensures)
    source given is
