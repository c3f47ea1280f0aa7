use Rattle.std.proofs.Common.{◌≡◌, ℕ, ◌^◌, ◌<◌, ◌≤◌, Option, Some, length, sym, ap, subst, ◌∙◌, arith, rules}
use Rattle.std.specs.Prelude.{IfSome}
use Rattle.document_text.specs.Reading.{DocumentLines}
use Rattle.document_check.proofs.ReadFacts.{reads_fit}
use Rattle.document_check.proofs.AskedLemmas.{asked_is}
use Rattle.document_check.proofs.CountedLemmas.{facts_for}
use Rattle.document_check.specs.FirstBad.{asked_in}
use Rattle.document_check.specs.Shown.{facts_of}
use Rattle.document_check.proofs.check.behind_max.Goals as goal

pub allowed_at-requires-clause-facts : goal.allowed_at-requires-clause-facts
allowed_at-requires-clause-facts g c =
    let asked : asked_in c.args.lines.now.header ≡ Some c.in-Some.asked = ap (λ (x : DocumentLines). asked_in x.header) (sym c.lines.view_is) ∙ sym c.in-Some.ensures in
    facts_for c.args.lines.now.header (facts_of c.args.facts) c.in-Some.asked.version (asked_is c.args.lines.now.header c.in-Some.asked asked).version c.requires.facts

pub allowed_at-requires-2-clause-facts : goal.allowed_at-requires-2-clause-facts
allowed_at-requires-2-clause-facts g c =
    let asked : asked_in c.args.lines.now.header ≡ Some c.in-Some.asked = ap (λ (x : DocumentLines). asked_in x.header) (sym c.lines.view_is) ∙ sym c.in-Some.ensures in
    facts_for c.args.lines.now.header (facts_of c.args.facts) c.in-Some.asked.version (asked_is c.args.lines.now.header c.in-Some.asked asked).version c.requires.facts

pub allowed_at-requires-clause-max : goal.allowed_at-requires-clause-max
allowed_at-requires-clause-max g c =
    let small : length c.args.bytes.now < 2 ^ 63 = search rules in
    let asked : asked_in c.args.lines.now.header ≡ Some c.in-Some.asked = ap (λ (x : DocumentLines). asked_in x.header) (sym c.lines.view_is) ∙ sym c.in-Some.ensures in
    subst (λ (o : Option ℕ). IfSome o (λ max. max ≤ 8)) (asked_is c.args.lines.now.header c.in-Some.asked asked).max (reads_fit c.args.bytes.now c.args.lines.now small c.requires.lines).max

pub allowed_at-requires-2-clause-max : goal.allowed_at-requires-2-clause-max
allowed_at-requires-2-clause-max g c =
    let small : length c.args.bytes.now < 2 ^ 63 = search rules in
    let asked : asked_in c.args.lines.now.header ≡ Some c.in-Some.asked = ap (λ (x : DocumentLines). asked_in x.header) (sym c.lines.view_is) ∙ sym c.in-Some.ensures in
    subst (λ (o : Option ℕ). IfSome o (λ max. max ≤ 8)) (asked_is c.args.lines.now.header c.in-Some.asked asked).max (reads_fit c.args.bytes.now c.args.lines.now small c.requires.lines).max

pub number_line-number-requires : goal.number_line-number-requires
number_line-number-requires g c =
    let small : length c.args.bytes.now < 2 ^ 63 = search rules in
    let line : c.lines.inside.verdict_line ≡ c.args.lines.now.verdict_line = ap (λ (x : DocumentLines). x.verdict_line) c.lines.view_is in
    let fits = (reads_fit c.args.bytes.now c.args.lines.now small c.requires.lines).verdict_line in
    omega (arith, line, fits)

pub logs_in-requires-clause-facts : goal.logs_in-requires-clause-facts
logs_in-requires-clause-facts g c lives outlives =
    let asked : asked_in c.args.lines.now.header ≡ Some c.in-Some.asked = ap (λ (x : DocumentLines). asked_in x.header) (sym c.lines.view_is) ∙ sym c.in-Some.ensures in
    facts_for c.args.lines.now.header (facts_of c.args.facts) c.in-Some.asked.version (asked_is c.args.lines.now.header c.in-Some.asked asked).version c.requires.facts
