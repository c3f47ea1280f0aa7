use Rattle.std.proofs.Common.{◌≡◌, ◌+◌, ◌<◌, ◌≤◌, Bool, true, false, None, Some, length, sym, ap, subst, ◌∙◌, arith, rules}
use Rattle.std.specs.Prelude.{if◌then◌else◌}
use Rattle.annot_check.proofs.ReadLemmas.{cut_is}
use Rattle.named_annotation.specs.Parts.{StatesEndAt, next_of}
use Rattle.named_annotation.proofs.Lines.{ends_bad, ends_read, ends_short, keeps_more}
use Rattle.named_annotation.proofs.reading.read_states.Goals as goal

pub returns-in_default-clause-bad : goal.returns-in_default-clause-bad
returns-in_default-clause-bad c = λ n same.
    subst (StatesEndAt c.args.of.now.formulas.now c.args.of.now.f c.args.states c.args.head.now) (let e : c.loop-alloc.line + 1 ≡ n = cc in e)
    (ends_short c.args.of.now.formulas.now c.args.of.now.f c.args.states c.args.head.now c.loop-alloc.named.states.keys c.loop-alloc.rest.now c.loop-alloc.line
    c.loop-alloc.invariant.keeps (sym c.in_default.ensures))

pub returns-then-not-branch-clause-bad : goal.returns-then-not-branch-clause-bad
returns-then-not-branch-clause-bad c = λ n same.
    let room : length c.loop-alloc.named.states.keys < c.args.states = search rules in
    let none : next_of c.args.of.now.formulas.now c.args.of.now.f c.loop-alloc.named.states.keys c.in-Some.text.now ≡ None =
    c.in_ok-take.ensures.next ∙ ap (λ (b : Bool). if b then Some c.take.new.self.states.keys else None) (let no : c.in_ok-take.field-0 ≡ false = search rules in no) in
    subst (StatesEndAt c.args.of.now.formulas.now c.args.of.now.f c.args.states c.args.head.now) (let e : c.loop-alloc.line + 1 ≡ n = cc in e)
    (ends_bad c.args.of.now.formulas.now c.args.of.now.f c.args.states c.args.head.now c.loop-alloc.named.states.keys c.loop-alloc.rest.now c.loop-alloc.line
    c.loop-alloc.invariant.keeps c.in-Some.text.now c.in-Some.behind.now (sym c.in-Some.ensures) room none)

pub loop-alloc-smaller : goal.loop-alloc-smaller
loop-alloc-smaller c = (cut_is c.loop-alloc.rest.now c.in-Some.text.now c.in-Some.behind.now (sym c.in-Some.ensures)).1

pub loop-alloc-preserved : goal.loop-alloc-preserved
loop-alloc-preserved c =
    let room : length c.loop-alloc.named.states.keys < c.args.states = search rules in
    let some : next_of c.args.of.now.formulas.now c.args.of.now.f c.loop-alloc.named.states.keys c.in-Some.text.now ≡ Some c.take.new.self.states.keys =
    c.in_ok-take.ensures.next ∙ ap (λ (b : Bool). if b then Some c.take.new.self.states.keys else None) (let taken : c.in_ok-take.field-0 ≡ true = search rules in taken) in
    record {
      keeps = keeps_more c.args.of.now.formulas.now c.args.of.now.f c.args.states c.args.head.now c.loop-alloc.named.states.keys c.loop-alloc.rest.now c.loop-alloc.line
          c.loop-alloc.invariant.keeps c.in-Some.text.now c.in-Some.behind.now (sym c.in-Some.ensures) room c.take.new.self.states.keys some;
      covers = c.in_ok-take.ensures.covers;
    }

pub returns-clause-ok : goal.returns-clause-ok
returns-clause-ok c =
    let all : c.args.states ≤ length c.loop-alloc.named.states.keys = search rules in
    let most : length c.loop-alloc.named.states.keys ≤ c.args.states = c.loop-alloc.invariant.keeps.count in
    record {
      whole = ends_read c.args.of.now.formulas.now c.args.of.now.f c.args.states c.args.head.now c.loop-alloc.named.states.keys c.loop-alloc.rest.now c.loop-alloc.line
          c.loop-alloc.invariant.keeps all;
      count = omega (arith, all, most);
      lines = c.loop-alloc.invariant.keeps.lines;
      within = c.loop-alloc.invariant.keeps.within;
    }
