-- Paths of the automaton, whatever the letters.
use Rattle.std.proofs.Common.{ℕ, zero, suc, refl, sym, subst}
use Rattle.letters_and_lassos.specs.Word.{Word, next}
use Rattle.letters_and_lassos.specs.declared.letters.Letter.{Letter}
use Rattle.machine_model.specs.Accepts.{Path}
use Rattle.machine_model.specs.Automaton.{AutomatonModel, HasEdge}
use Rattle.machine_model.specs.Components.{EdgePath, Reaches}

module _ (a : AutomatonModel) where
  pub reaches_self : (q : ℕ) → Reaches a q q
  reaches_self q = record { steps = 0; path = refl }

  -- an edge, and from there on
  pub edge_reaches : (letter : Letter) (q r s : ℕ) → HasEdge a letter q r → Reaches a r s → Reaches a q s
  edge_reaches letter q r s edge on = record {
    steps = suc on.steps;
    path = (record { from = q; cube = edge.cube; to = r }, edge.stands, refl, on.path);
  }

  along_path : (n q r s : ℕ) → EdgePath a n q r → Reaches a r s → Reaches a q s
  along_path zero q r s path on = subst (λ k. Reaches a k s) (sym path) on
  along_path (suc n) q r s path on =
      let rest : Reaches a path.0.to s = along_path n path.0.to r s path.3 on in
      record { steps = suc rest.steps; path = (path.0, path.1, path.2, rest.path) }

  pub reaches_on : (q r s : ℕ) → Reaches a q r → Reaches a r s → Reaches a q s
  reaches_on q r s first on = along_path first.steps q r s first.path on

  -- a path along the letters of a word, and from there on
  pub path_reaches : (w : Word) (n i q j r s : ℕ) → Path a w n i q j r → Reaches a r s → Reaches a q s
  path_reaches w zero i q j r s path on = subst (λ k. Reaches a k s) (sym path.1) on
  path_reaches w (suc n) i q j r s path on =
      let rest : Reaches a path.0 s = path_reaches w n (next w i) path.0 j r s path.2 on in
      edge_reaches _ q path.0 s path.1 rest
