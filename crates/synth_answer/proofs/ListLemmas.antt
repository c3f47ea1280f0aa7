-- Numbers in a range, names of lines, and the two parts of a list of which something holds.
use Rattle.std.proofs.Common.{◌≡◌, ℕ, ◌≤◌, true, List, [], ◌∷◌, Some, All, IfSome, IsTrue, is_some, map, refl}
use Rattle.std.proofs.lemmas.Bool.{le-leb}
use Rattle.std.proofs.lemmas.List.Elements.{All-map}
use Rattle.std.specs.List.{list_all}
use Rattle.aiger_text.specs.RoundTrip.{IsLineName}
use Rattle.flat_text.specs.FlatNames.{IsOneWord}
use Rattle.document_text.specs.Order.{is_in_range}
use Rattle.text_ground.proofs.Lists.{all_map}

pub in_range : (least most n : ℕ) → least ≤ n → n ≤ most → IsTrue (is_in_range least most n)
in_range least most n l m = let a = le-leb least n l in let b = le-leb n most m in rw (a, b) refl

pub all_some : (names : List (List ℕ)) → list_all is_some (map Some names) ≡ true
all_some [] = refl
all_some (name ∷ names) = all_some names

pub line_names : (names : List (List ℕ)) → All IsOneWord names → All (λ name. IfSome name IsLineName) (map Some names)
line_names names all =
    All-map (λ name. IfSome name IsLineName) Some names
    (all_map IsOneWord IsLineName (λ name h. record { nonempty = h.nonempty; one_line = h.one_line }) names all)
