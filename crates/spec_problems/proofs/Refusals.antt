-- The refusal of a formula says why its automata weren't given.
use Rattle.std.proofs.Common.{◌≡◌, ℕ, List, None, Result, Err, refl, ap, subst}
use Rattle.ltl_formula.specs.declared.nodes.Node.{Node}
use Rattle.ltl_formula.specs.Added.{Built}
use Rattle.ltl_formula.specs.Tree.{Tree}
use Rattle.cobuchi_build.specs.declared.building.BuildFault.{BuildFault}
use Rattle.side_automata.specs.BothForms.{both_forms}
use Rattle.side_automata.specs.Sides.{SystemPassesLimit}
use Rattle.spec_faults.specs.declared.code.SpecCode.{SpecCode}
use Rattle.spec_faults.specs.declared.code.SpecCode.TheVariants.{TooManyNodes, AutomatonTooLarge}
use Rattle.spec_faults.specs.declared.code.SpecFault.{SpecFault}
use Rattle.spec_faults.specs.declared.code.SpecFault.TheVariants.{At}
use Rattle.spec_problems.specs.OfFormula.{IsFormFault, no_room, too_large, refusal_of}

same_code : (a b : SpecCode) (j k : ℕ) → At a j ≡ At b k → a ≡ b
same_code a b j k e = cc

same_place : (a b : SpecCode) (j k : ℕ) → At a j ≡ At b k → j ≡ k
same_place a b j k e = cc

fault_at : (f : Tree) (nodes : List Node) (a b : SpecCode) (j k : ℕ) → At a j ≡ At b k → IsFormFault f nodes a j → IsFormFault f nodes b k
fault_at f nodes a b j k e h = subst (λ (c : SpecCode). IsFormFault f nodes c k) (same_code a b j k e) (subst (λ (p : ℕ). IsFormFault f nodes a p) (same_place a b j k e) h)

pub form_fault : (f : Tree) (old new : List Node) (fault : BuildFault) → (fault ≡ BuildFault.TooLarge → SystemPassesLimit f old new) → (fault ≡ BuildFault.TooManyNodes → both_forms f old ≡ record { nodes = new; made = None })
    → (code : SpecCode) (place : ℕ) → refusal_of fault ≡ At code place → IsFormFault f old code place
form_fault f old new BuildFault.TooLarge large many code place e = fault_at f old AutomatonTooLarge code 0 place e (too_large new (large refl))
form_fault f old new BuildFault.TooManyNodes large many code place e = fault_at f old TooManyNodes code 0 place e (no_room (ap (λ (b : Built). b.made) (many refl)))
form_fault f old new BuildFault.NoMemory large many code place e = absurd (let never : ⊥ = cc in never)

-- two refusals of a call
pub same_fault : {T : Type 0} (a b : SpecFault) → ◌≡◌ {A = Result T SpecFault} (Err a) (Err b) → a ≡ b
same_fault a b e = cc
