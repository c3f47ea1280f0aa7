-- What holds of each of the six sections.
use Rattle.std.proofs.Common.{◌≡◌, ℕ, List}
use Rattle.ltl_formula.specs.declared.nodes.Node.{Node}
use Rattle.ltl_formula.specs.Nodes.{Grows}
use Rattle.spec_faults.specs.declared.code.SpecCode.{SpecCode}
use Rattle.tlsf_syntax.specs.declared.sections.Sections.{Sections}
use Rattle.tlsf_syntax.specs.Text.{each_section}
use Rattle.tlsf_values.specs.declared.work.Work.{Work}
use Rattle.tlsf_values.specs.Outcomes.{Outcome}
use Rattle.tlsf_expand.specs.Sections.{in_order}
use Rattle.tlsf_expand.specs.Standing.{OfEach}
use Rattle.tlsf_expand.proofs.Kept.{IsGood, Gives, IsKept, keeps_given, keeps_go_on}

-- the sections of one beside those of the other
abbrev pub both : {A B : Type 0} → Sections A → Sections B → Sections (A × B)
both s t = record {
  initially = (s.initially, t.initially);
  preset = (s.preset, t.preset);
  require = (s.require, t.require);
  assert = (s.assert, t.assert);
  assume = (s.assume, t.assume);
  guarantee = (s.guarantee, t.guarantee);
}

pub each_weaker : {A : Type 0} (P Q : A → Type 0) {s : Sections A} → ((a : A) → P a → Q a) → OfEach P s → OfEach Q s
each_weaker P Q f h = record {
  initially = f _ h.initially;
  preset = f _ h.preset;
  require = f _ h.require;
  assert = f _ h.assert;
  assume = f _ h.assume;
  guarantee = f _ h.guarantee;
}

pub each_of : {A B : Type 0} (P : A → Type 0) (Q : B → Type 0) (g : A → B) {s : Sections A} → ((a : A) → P a → Q (g a)) → OfEach P s → OfEach Q (each_section g s)
each_of P Q g f h = record {
  initially = f _ h.initially;
  preset = f _ h.preset;
  require = f _ h.require;
  assert = f _ h.assert;
  assume = f _ h.assume;
  guarantee = f _ h.guarantee;
}

pub same_where : {A B : Type 0} (f g : A → B) {s : Sections A} → OfEach (λ a. f a ≡ g a) s → each_section f s ≡ each_section g s
same_where f g h = λ k. record {
  initially = h.initially k;
  preset = h.preset k;
  require = h.require k;
  assert = h.assert k;
  assume = h.assume k;
  guarantee = h.guarantee k;
}

pub each_is : {A : Type 0} (P : A → Type 0) → ((a : A) → P a) → (s : Sections A) → OfEach P s
each_is P f s = record { initially = f _; preset = f _; require = f _; assert = f _; assume = f _; guarantee = f _ }

pub same_each : {A B : Type 0} (f g : A → B) → ((a : A) → f a ≡ g a) → (s : Sections A) → each_section f s ≡ each_section g s
same_each f g e s = same_where f g (each_is _ e s)

-- what comes of one section after the other is in the list that comes of them all
pub keeps_in_order : {A B : Type 0} {R : SpecCode → ℕ → Type 0} {top : ℕ} (H : A → Type 0) (P : A → B → List Node → Type 0) (f : A → Work → Outcome B)
    → ((a : A) (b : B) (old new : List Node) → Grows old new → P a b old → P a b new)
    → ((a : A) → H a → (work : Work) → IsGood top work.formulas → Gives R (IsKept top work.formulas (P a)) (f a work))
    → (s : Sections A) → OfEach H s → (work : Work) → IsGood top work.formulas → Gives R (IsKept top work.formulas (λ t nodes. OfEach (λ p. P p.0 p.1 nodes) (both s t))) (in_order f s work)
keeps_in_order H P f later one s h work good =
    keeps_go_on _ _ (one s.initially h.initially work good) (λ t1 w1 good1 g1 p1.
    keeps_go_on _ _ (one s.preset h.preset w1 good1) (λ t2 w2 good2 g2 p2.
    keeps_go_on _ _ (one s.require h.require w2 good2) (λ t3 w3 good3 g3 p3.
    keeps_go_on _ _ (one s.assert h.assert w3 good3) (λ t4 w4 good4 g4 p4.
    keeps_go_on _ _ (one s.assume h.assume w4 good4) (λ t5 w5 good5 g5 p5.
    keeps_go_on _ _ (one s.guarantee h.guarantee w5 good5) (λ t6 w6 good6 g6 p6.
    keeps_given _ _ w6 good6 (record {
      initially = later _ _ _ _ g6 (later _ _ _ _ g5 (later _ _ _ _ g4 (later _ _ _ _ g3 (later _ _ _ _ g2 p1))));
      preset = later _ _ _ _ g6 (later _ _ _ _ g5 (later _ _ _ _ g4 (later _ _ _ _ g3 p2)));
      require = later _ _ _ _ g6 (later _ _ _ _ g5 (later _ _ _ _ g4 p3));
      assert = later _ _ _ _ g6 (later _ _ _ _ g5 p4);
      assume = later _ _ _ _ g6 p5;
      guarantee = p6;
    })))))))
