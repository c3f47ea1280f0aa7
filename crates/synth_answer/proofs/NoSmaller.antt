-- No circuit with fewer states than an answer tells does what its side owes.
use Rattle.std.proofs.Common.{◌≡◌, ℕ, ◌<◌, List, Option, refl, ap, subst, ◌∙◌, arith}
use Rattle.letters_and_lassos.specs.declared.kinds.Kind.{Kind}
use Rattle.document_text.specs.Laws.{DocumentsAreDetermined}
use Rattle.document_text.specs.Parts.{Document}
use Rattle.document_text.specs.States.{States}
use Rattle.tlsf_reader.specs.Reads.{TreesAreDetermined}
use Rattle.satisfaction.specs.Wanted.{Wanted}
use Rattle.circuit_laws.specs.Laws.{NoCircuitDefeats, NoCircuitSatisfies, NoSmallCircuitDefeats, NoSmallCircuitSatisfies}
use Rattle.text_ground.specs.Ground.{IsWantedBy}
use Rattle.synth_answer.specs.Numbers.{NoSmallerCircuits, told_number}
use Rattle.synth_answer.proofs.Numbers.{RealAt, UnrealAt, real_at, same_wanted, unreal_at}

module _ (trees : TreesAreDetermined) (documents : DocumentsAreDetermined) (text : List ℕ) (kind : Option Kind) (bytes : List ℕ) (d : Document) (x : Wanted) (k : ℕ)
    (states : States bytes d) (by : IsWantedBy text kind x) (less : k < told_number d.verdict) where
  below : (e : Document) (n : ℕ) → States bytes e → told_number e.verdict ≡ n → k < n
  below e n others told =
      subst (λ (m : ℕ). k < m) (ap (λ (f : Document). told_number f.verdict) (documents.one_document bytes d e states others) ∙ told) less

  none_satisfies : NoSmallCircuitSatisfies → RealAt text kind bytes → NoCircuitSatisfies x k
  none_satisfies law one =
      let few : k < one.n = below one.document one.n one.states one.told in
      let same : one.wanted ≡ x = same_wanted trees text kind kind (λ tree read. refl) one.wanted x one.by by in
      subst (λ (y : Wanted). NoCircuitSatisfies y k) same (law one.wanted k (λ j some le. one.none j some (omega (arith, le, few))) k (omega arith))

  none_defeats : NoSmallCircuitDefeats → UnrealAt text kind bytes → NoCircuitDefeats x k
  none_defeats law one =
      let few : k < one.n = below one.document one.n one.states one.told in
      let same : one.wanted ≡ x = same_wanted trees text kind kind (λ tree read. refl) one.wanted x one.by by in
      subst (λ (y : Wanted). NoCircuitDefeats y k) same (law one.wanted k (λ j some le. one.each j some (omega (arith, le, few))) k (omega arith))

pub no_smaller_circuits : TreesAreDetermined → DocumentsAreDetermined → NoSmallCircuitSatisfies → NoSmallCircuitDefeats → NoSmallerCircuits
no_smaller_circuits trees documents satisfies defeats = record {
  satisfy = λ text kind settings bytes d x k answers states by less.
      none_satisfies trees documents text kind bytes d x k states by less satisfies (real_at answers refl);
  defeat = λ text kind settings bytes d x k answers states by less.
      none_defeats trees documents text kind bytes d x k states by less defeats (unreal_at answers refl);
}
