use Rattle.std.proofs.Common.{◌≡◌, ℕ, ◌<◌, true, eqb, ◌&&◌, refl, ap, ◌∙◌, List}
use Rattle.std.proofs.lemmas.Bool.{and_parts, and_from, eqb-true, eq-eqb, false≢true}
use Rattle.ltl_formula.specs.declared.nodes.FormulaId.{FormulaId}
use Rattle.ltl_formula.specs.declared.nodes.Node.{Node}
use Rattle.ltl_formula.specs.declared.nodes.Node.TheVariants.{True, False, Signal, Not, Next, Finally, Globally, And, Or, Implies, Equiv, Until, Release, WeakUntil}
use Rattle.ltl_formula.specs.Tree.{Tree}
use Rattle.ltl_formula.specs.Nodes.{pick, tree_of, PartsBelow}
use Rattle.ltl_formula.specs.Added.{node_eq}

-- ids with one number are one
pub same_id_of : (a b : FormulaId) → a.0 ≡ b.0 → a ≡ b
same_id_of a b e = ap (λ n. let id : FormulaId = record { 0 = n } in id) e

both_same : (f : FormulaId → FormulaId → Node) (a b c d : FormulaId) → (eqb a.0 c.0 && eqb b.0 d.0) ≡ true → f a b ≡ f c d
both_same f a b c d h =
    let parts : (eqb a.0 c.0 ≡ true) × (eqb b.0 d.0 ≡ true) = and_parts (eqb a.0 c.0) (eqb b.0 d.0) h in
    ap (λ x. f x b) (same_id_of a c (eqb-true a.0 c.0 parts.0)) ∙ ap (f c) (same_id_of b d (eqb-true b.0 d.0 parts.1))

-- nodes that the derived `==` finds equal are equal
pub node_eq-true : (m n : Node) → node_eq m n ≡ true → m ≡ n
node_eq-true True True h = refl
node_eq-true False False h = refl
node_eq-true (Signal s) (Signal t) h = ap Signal (eqb-true s t h)
node_eq-true (Not a) (Not b) h = ap Not (same_id_of a b (eqb-true a.0 b.0 h))
node_eq-true (Next a) (Next b) h = ap Next (same_id_of a b (eqb-true a.0 b.0 h))
node_eq-true (Finally a) (Finally b) h = ap Finally (same_id_of a b (eqb-true a.0 b.0 h))
node_eq-true (Globally a) (Globally b) h = ap Globally (same_id_of a b (eqb-true a.0 b.0 h))
node_eq-true (And a b) (And c d) h = both_same And a b c d h
node_eq-true (Or a b) (Or c d) h = both_same Or a b c d h
node_eq-true (Implies a b) (Implies c d) h = both_same Implies a b c d h
node_eq-true (Equiv a b) (Equiv c d) h = both_same Equiv a b c d h
node_eq-true (Until a b) (Until c d) h = both_same Until a b c d h
node_eq-true (Release a b) (Release c d) h = both_same Release a b c d h
node_eq-true (WeakUntil a b) (WeakUntil c d) h = both_same WeakUntil a b c d h
node_eq-true m n h = absurd (false≢true h)

-- and it finds a node equal to itself
pub node_eq-self : (n : Node) → node_eq n n ≡ true
node_eq-self True = refl
node_eq-self False = refl
node_eq-self (Signal s) = eq-eqb s s refl
node_eq-self (Not a) = eq-eqb a.0 a.0 refl
node_eq-self (Next a) = eq-eqb a.0 a.0 refl
node_eq-self (Finally a) = eq-eqb a.0 a.0 refl
node_eq-self (Globally a) = eq-eqb a.0 a.0 refl
node_eq-self (And a b) = and_from (eqb a.0 a.0) (eqb b.0 b.0) (eq-eqb a.0 a.0 refl) (eq-eqb b.0 b.0 refl)
node_eq-self (Or a b) = and_from (eqb a.0 a.0) (eqb b.0 b.0) (eq-eqb a.0 a.0 refl) (eq-eqb b.0 b.0 refl)
node_eq-self (Implies a b) = and_from (eqb a.0 a.0) (eqb b.0 b.0) (eq-eqb a.0 a.0 refl) (eq-eqb b.0 b.0 refl)
node_eq-self (Equiv a b) = and_from (eqb a.0 a.0) (eqb b.0 b.0) (eq-eqb a.0 a.0 refl) (eq-eqb b.0 b.0 refl)
node_eq-self (Until a b) = and_from (eqb a.0 a.0) (eqb b.0 b.0) (eq-eqb a.0 a.0 refl) (eq-eqb b.0 b.0 refl)
node_eq-self (Release a b) = and_from (eqb a.0 a.0) (eqb b.0 b.0) (eq-eqb a.0 a.0 refl) (eq-eqb b.0 b.0 refl)
node_eq-self (WeakUntil a b) = and_from (eqb a.0 a.0) (eqb b.0 b.0) (eq-eqb a.0 a.0 refl) (eq-eqb b.0 b.0 refl)

-- nodes of one tree are one node, where trees tell the ids of the parts
module _ (trees : List Tree) (i n : ℕ) (tell : (a b : FormulaId) → a.0 < i → b.0 < n → pick trees a ≡ pick trees b → a ≡ b) where
  pub node_from_tree : (x y : Node) → PartsBelow i x → PartsBelow n y → tree_of trees x ≡ tree_of trees y → x ≡ y
  node_from_tree True True px py e = refl
  node_from_tree False False px py e = refl
  node_from_tree (Signal s) (Signal t) px py e = let same : s ≡ t = cc in ap Signal same
  node_from_tree (Not a) (Not b) px py e = let same : pick trees a ≡ pick trees b = cc in ap Not (tell a b px py same)
  node_from_tree (Next a) (Next b) px py e = let same : pick trees a ≡ pick trees b = cc in ap Next (tell a b px py same)
  node_from_tree (Finally a) (Finally b) px py e = let same : pick trees a ≡ pick trees b = cc in ap Finally (tell a b px py same)
  node_from_tree (Globally a) (Globally b) px py e = let same : pick trees a ≡ pick trees b = cc in ap Globally (tell a b px py same)
  node_from_tree (And a b) (And c d) px py e =
      let first : pick trees a ≡ pick trees c = cc in
      let second : pick trees b ≡ pick trees d = cc in
      ap (λ x. And x b) (tell a c px.0 py.0 first) ∙ ap (And c) (tell b d px.1 py.1 second)
  node_from_tree (Or a b) (Or c d) px py e =
      let first : pick trees a ≡ pick trees c = cc in
      let second : pick trees b ≡ pick trees d = cc in
      ap (λ x. Or x b) (tell a c px.0 py.0 first) ∙ ap (Or c) (tell b d px.1 py.1 second)
  node_from_tree (Implies a b) (Implies c d) px py e =
      let first : pick trees a ≡ pick trees c = cc in
      let second : pick trees b ≡ pick trees d = cc in
      ap (λ x. Implies x b) (tell a c px.0 py.0 first) ∙ ap (Implies c) (tell b d px.1 py.1 second)
  node_from_tree (Equiv a b) (Equiv c d) px py e =
      let first : pick trees a ≡ pick trees c = cc in
      let second : pick trees b ≡ pick trees d = cc in
      ap (λ x. Equiv x b) (tell a c px.0 py.0 first) ∙ ap (Equiv c) (tell b d px.1 py.1 second)
  node_from_tree (Until a b) (Until c d) px py e =
      let first : pick trees a ≡ pick trees c = cc in
      let second : pick trees b ≡ pick trees d = cc in
      ap (λ x. Until x b) (tell a c px.0 py.0 first) ∙ ap (Until c) (tell b d px.1 py.1 second)
  node_from_tree (Release a b) (Release c d) px py e =
      let first : pick trees a ≡ pick trees c = cc in
      let second : pick trees b ≡ pick trees d = cc in
      ap (λ x. Release x b) (tell a c px.0 py.0 first) ∙ ap (Release c) (tell b d px.1 py.1 second)
  node_from_tree (WeakUntil a b) (WeakUntil c d) px py e =
      let first : pick trees a ≡ pick trees c = cc in
      let second : pick trees b ≡ pick trees d = cc in
      ap (λ x. WeakUntil x b) (tell a c px.0 py.0 first) ∙ ap (WeakUntil c) (tell b d px.1 py.1 second)
  node_from_tree x y px py e = absurd (let never : ⊥ = cc in never)
