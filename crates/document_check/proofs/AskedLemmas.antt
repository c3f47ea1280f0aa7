-- What a header asks for.
use Rattle.std.proofs.Common.{◌≡◌, Some, ap, ◌∙◌}
use Rattle.document_text.specs.declared.header.Header.{Header}
use Rattle.std_lemmas.proofs.Options.{chained_some, mapped_some}
use Rattle.document_check.specs.declared.facts.Asked.{Asked}
use Rattle.document_check.specs.FirstBad.{asked_in}

pub record IsAskedBy (h : Header) (a : Asked) : Type 0 where
  pub version : h.version ≡ Some a.version
  pub verdict : h.verdict ≡ Some a.verdict
  pub kind : h.kind ≡ Some a.kind
  pub max : h.max ≡ Some a.max

pub asked_is : (h : Header) (a : Asked) → asked_in h ≡ Some a → IsAskedBy h a
asked_is h a is =
    let v = chained_some _ h.version a is in
    let r = chained_some _ h.verdict a v.2 in
    let k = chained_some _ h.kind a r.2 in
    let m = mapped_some _ h.max a k.2 in
    record {
      version = v.1 ∙ ap (λ (x : Asked). Some x.version) m.2;
      verdict = r.1 ∙ ap (λ (x : Asked). Some x.verdict) m.2;
      kind = k.1 ∙ ap (λ (x : Asked). Some x.kind) m.2;
      max = m.1 ∙ ap (λ (x : Asked). Some x.max) m.2;
    }
