-- The problems of a text once more, with numbers that count by component.
use Rattle.std.proofs.Common.{◌≡◌, ℕ, true, Option, Some, None, refl, sym, ap, subst, ◌∙◌}
use Rattle.std.specs.Prelude.{IfSome}
use Rattle.std.specs.Option.{option_map_or}
use Rattle.machine_model.specs.declared.counting.Counts.TheVariants.{Local, Whole}
use Rattle.machine_model.specs.declared.problems.Problem.{Problem}
use Rattle.machine_model.specs.Problem.{IsProblem, Parts, automaton_of, counts_locally, parts_of, sized}
use Rattle.machine_model.proofs.CountingLemmas.{counts_by}
use Rattle.document_text.specs.declared.header.Header.{Header}
use Rattle.document_check.specs.declared.counted.Counted.{Counted}
use Rattle.document_check.specs.Alike.{AreAlike, AreSameShapes, Shape, shape_of}
use Rattle.document_check.specs.Facts.{Facts, counts_for}
use Rattle.document_check.specs.Shown.{AreCounted, AreFacts, AreFactsFor, AreFactsIn, IsCounted, IsCountedIfAny, IsReadyFor, counts_of}

-- the shape of parts
abbrev of_parts : Parts → Shape
of_parts x = record { automaton = x.automaton; inputs = x.inputs; outputs = x.outputs; side = x.side }

-- what says the same but for its counting, which is by component
pub is_counted : (p q r : Problem) → parts_of q ≡ parts_of (sized p p.size) → IsProblem r → r ≡ record q { counting = r.counting } → counts_locally r ≡ true → IsCounted p r
is_counted p q r same within is local = record {
  problem = within;
  counting = counts_by (automaton_of r) r.counting local within.counting;
  shape = ap (λ (x : Problem). shape_of x) is ∙ ap (λ (x : Parts). of_parts x) same;
}

-- == what a document's version wants ==

whole_if_any : (version : ℕ) (o : Option Problem) → counts_for version ≡ Whole → IfSome o IsProblem → IfSome o (IsReadyFor version)
whole_if_any version None whole are = tt
whole_if_any version (Some p) whole are = record { problem = are; counting = λ local. absurd (let e : Whole ≡ Local = sym whole ∙ local in cc) }

-- where numbers don't count by component, problems within the limits are such
pub facts_whole : (header : Header) (facts : Facts) → AreFacts facts → counts_of header ≡ Whole → AreFactsIn header facts
facts_whole header facts are whole = by header.version whole
  where
    by : (o : Option ℕ) → option_map_or counts_for o Whole ≡ Whole → IfSome o (λ version. AreFactsFor version facts)
    by None so = tt
    by (Some version) so = record {
      system = record { problem = are.system; counting = λ local. absurd (let e : Whole ≡ Local = sym so ∙ local in cc) };
      environment = whole_if_any version facts.environment so are.environment;
    }

-- what a text gives, with these problems
abbrev pub with_counted : Facts → Counted → Facts
with_counted facts counted = record facts { system = counted.system; environment = counted.environment }

ready_if_any : (version : ℕ) (o e : Option Problem) → IsCountedIfAny o e → IfSome e (IsReadyFor version)
ready_if_any version None None are = tt
ready_if_any version (Some p) (Some q) are = record { problem = are.problem; counting = λ local. are.counting }
ready_if_any version None (Some q) are = absurd are
ready_if_any version (Some p) None are = absurd are

-- where they do, those that count so are such
pub facts_counted : (header : Header) (facts : Facts) (counted : Counted) → AreCounted facts counted → AreFactsIn header (with_counted facts counted)
facts_counted header facts counted are = by header.version
  where
    by : (o : Option ℕ) → IfSome o (λ version. AreFactsFor version (with_counted facts counted))
    by None = tt
    by (Some version) = record {
      system = record { problem = are.system.problem; counting = λ local. are.system.counting };
      environment = ready_if_any version facts.environment counted.environment are.environment;
    }

same_if_any : (o e : Option Problem) → IsCountedIfAny o e → AreSameShapes e o
same_if_any None None are = tt
same_if_any (Some p) (Some q) are = are.shape
same_if_any None (Some q) are = absurd are
same_if_any (Some p) None are = absurd are

-- and the test sees the same of them
pub counted_alike : (facts : Facts) (counted : Counted) → AreCounted facts counted → AreAlike (with_counted facts counted) facts
counted_alike facts counted are = record {
  inputs = refl;
  outputs = refl;
  system = are.system.shape;
  environment = same_if_any facts.environment counted.environment are.environment;
}

-- what a header asks for is of its version
pub facts_for : (header : Header) (facts : Facts) (version : ℕ) → header.version ≡ Some version → AreFactsIn header facts → AreFactsFor version facts
facts_for header facts version is are = let Q : Option ℕ → Type 0 = λ o. IfSome o (λ v. AreFactsFor v facts) in subst Q is are
