-- Values of members that are joined one after the other.
use Rattle.std.proofs.Common.{◌≡◌, ℕ, ◌+◌, ◌<◌, false, List, [], ◌∷◌, ◌++◌, length, get_or, drop, map, Option, None, Some, refl, sym, ap, subst, ◌∙◌}
use Rattle.std.proofs.lemmas.List.{append-nil, at_drop_more}
use Rattle.ltl_formula.specs.declared.nodes.FormulaId.{FormulaId}
use Rattle.spec_faults.specs.declared.code.SpecFault.{SpecFault}
use Rattle.tlsf_syntax.specs.declared.spec.Member.{Member}
use Rattle.tlsf_syntax.specs.Tree.{Pattern}
use Rattle.tlsf_values.specs.declared.formula.Pairing.TheVariants as pairing
use Rattle.tlsf_values.specs.declared.work.Work.{Work}
use Rattle.tlsf_values.specs.Outcomes.{Outcome, gives, go_on}
use Rattle.tlsf_values.specs.Patterns.{joined_to, or_truth, bits_made, values_joined, all_values, values_made}
use Rattle.tlsf_values.specs.Results.{IsFault}
use Rattle.tlsf_syntax.specs.Seen.{pattern_seen, member_seen}
use Rattle.tlsf_values.proofs.OutcomeLemmas.{fault_goes_on, go_on_assoc}

-- values are joined to those before, and then those after them
pub values_then : (place first : ℕ) (ps qs : List Pattern) (so_far : Option FormulaId) (w : Work) →
    values_made place first (ps ++ qs) so_far w ≡ go_on (values_joined place first ps so_far w) (λ joined w. values_made place first qs joined w)
values_then place first [] qs so_far w = refl
values_then place first (p ∷ ps) qs so_far w =
    let rest : Option FormulaId → Work → Outcome FormulaId = λ joined w. values_made place first qs joined w in
    let more : FormulaId → Work → Outcome (Option FormulaId) = λ either w. values_joined place first ps (Some either) w in
    (λ i. go_on (bits_made place first p.bits None w) (λ id w. go_on (joined_to place pairing.Or so_far id w) (λ either w. values_then place first ps qs (Some either) w i)))
    ∙ sym (go_on_assoc (bits_made place first p.bits None w) (λ id w. go_on (joined_to place pairing.Or so_far id w) more) rest
    ∙ (λ i. go_on (bits_made place first p.bits None w) (λ id w. go_on_assoc (joined_to place pairing.Or so_far id w) more rest i)))

-- all values joined, or false where there is none
pub values_end : (place first : ℕ) (ps : List Pattern) (so_far : Option FormulaId) (w : Work) →
    values_made place first ps so_far w ≡ go_on (values_joined place first ps so_far w) (λ joined w. or_truth place false joined w)
values_end place first ps so_far w = sym (ap (λ xs. values_made place first xs so_far w) (append-nil ps)) ∙ values_then place first ps [] so_far w

pub values_given : (place first : ℕ) (ps qs : List Pattern) (so_far joined : Option FormulaId) (w v : Work) → values_joined place first ps so_far w ≡ gives joined v →
    values_made place first (ps ++ qs) so_far w ≡ values_made place first qs joined v
values_given place first ps qs so_far joined w v e = values_then place first ps qs so_far w ∙ ap (λ o. go_on o (λ joined w. values_made place first qs joined w)) e

pub values_fault : (place first : ℕ) (ps qs : List Pattern) (so_far : Option FormulaId) (w : Work) (e : SpecFault) → IsFault (values_joined place first ps so_far w) e →
    IsFault (values_made place first (ps ++ qs) so_far w) e
values_fault place first ps qs so_far w e h = subst (λ o. IsFault o e) (sym (values_then place first ps qs so_far w)) (fault_goes_on (values_joined place first ps so_far w) _ e h)

-- ---- members in their order

pub seen_from : (members : List Member) (i : ℕ) (m : Member) → i < length members → m ≡ get_or members i m →
    all_values (map member_seen (drop i members)) ≡ map pattern_seen m.values.items ++ all_values (map member_seen (drop (i + 1) members))
seen_from members i m below is = at_drop_more (λ ms. all_values (map member_seen ms)) members i m below ∙ ap (λ x. all_values (map member_seen (x ∷ drop (i + 1) members))) (sym is)

pub member_given : (place first : ℕ) (members : List Member) (i : ℕ) (m : Member) (so_far joined : Option FormulaId) (w v : Work) → i < length members → m ≡ get_or members i m →
    values_joined place first (map pattern_seen m.values.items) so_far w ≡ gives joined v →
    values_made place first (all_values (map member_seen (drop i members))) so_far w ≡ values_made place first (all_values (map member_seen (drop (i + 1) members))) joined v
member_given place first members i m so_far joined w v below is e =
    ap (λ ps. values_made place first ps so_far w) (seen_from members i m below is)
    ∙ values_given place first (map pattern_seen m.values.items) (all_values (map member_seen (drop (i + 1) members))) so_far joined w v e

pub member_fault : (place first : ℕ) (members : List Member) (i : ℕ) (m : Member) (so_far : Option FormulaId) (w : Work) (e : SpecFault) → i < length members → m ≡ get_or members i m →
    IsFault (values_joined place first (map pattern_seen m.values.items) so_far w) e → IsFault (values_made place first (all_values (map member_seen (drop i members))) so_far w) e
member_fault place first members i m so_far w e below is h =
    subst (λ ps. IsFault (values_made place first ps so_far w) e) (sym (seen_from members i m below is))
    (values_fault place first (map pattern_seen m.values.items) (all_values (map member_seen (drop (i + 1) members))) so_far w e h)

pub end_fault : (place first : ℕ) (ps : List Pattern) (so_far : Option FormulaId) (w : Work) (e : SpecFault) → IsFault (values_joined place first ps so_far w) e →
    IsFault (values_made place first ps so_far w) e
end_fault place first ps so_far w e h = subst (λ o. IsFault o e) (sym (values_end place first ps so_far w)) (fault_goes_on (values_joined place first ps so_far w) _ e h)
