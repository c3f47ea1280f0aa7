-- Lines of one form, one after the other.
use Rattle.std.proofs.Common.{◌≡◌, ℕ, zero, suc, ◌+◌, ◌-◌, ◌<◌, ◌≤◌, Option, Some, None, List, [], ◌∷◌, ◌++◌, length, refl, sym, ap, subst, ◌∙◌, arith, append_assoc}
use Rattle.std.specs.Prelude.{All, map, IfSome, option_and_then, unwrap_or}
use Rattle.std.specs.Option.{option_map_or}
use Rattle.std.proofs.lemmas.List.{append-nil, length-append}
use Rattle.std.proofs.lemmas.List.Elements.{All-cons}
use Rattle.aiger_text.specs.CircuitText.{text_of_lines}
use Rattle.document_text.specs.Header.{front}
use Rattle.document_text.proofs.HeaderWhole.{first_line}
use Rattle.document_text.proofs.LineRead.{front_is, front_read}
use Rattle.witness_text.specs.Statement.{group, parted, single, values_from}
use Rattle.witness_text.proofs.FormLemmas.{IsForm}

-- a line isn't empty
pub lines_length : (lines : List (List ℕ)) → length lines ≤ length (text_of_lines lines)
lines_length [] = omega arith
lines_length (line ∷ lines) =
    let a : length (text_of_lines (line ∷ lines)) ≡ length (line ++ 10 ∷ []) + length (text_of_lines lines) = length-append (line ++ 10 ∷ []) (text_of_lines lines) in
    let b : length (line ++ 10 ∷ []) ≡ length line + 1 = length-append line (10 ∷ []) in
    let more = lines_length lines in
    omega (arith, a, b, more)

module _ {X : Type 0} (reading : List ℕ → Option X) (line : X → List ℕ) (P : X → Type 0) (form : IsForm reading line P) where
  abbrev pub Found : Type 0
  Found = List X × Option (List ℕ)

  -- the next line
  pub record IsNext (bytes : List ℕ) (x : X) (rest : List ℕ) : Type 0 where
    pub fits : P x
    pub text : (lines : List (List ℕ)) (left : List ℕ) → rest ≡ text_of_lines lines ++ left → bytes ≡ text_of_lines (line x ∷ lines) ++ left

  pub next_is : (bytes : List ℕ) (x : X) (rest : List ℕ) → front reading bytes ≡ Some (x, rest) → IsNext bytes x rest
  next_is bytes x rest is =
      let f = front_is reading bytes x rest is in
      let k = form.is f.line x f.read in
      record {
        fits = k.1;
        text = λ lines left e. (f.bytes_are ∙ (λ i. k.0 i ++ 10 ∷ e i) ∙ first_line (line x) lines left);
      }

  pub next_read : (x : X) (lines : List (List ℕ)) (rest : List ℕ) → P x → front reading (text_of_lines (line x ∷ lines) ++ rest) ≡ Some (x, text_of_lines lines ++ rest)
  next_read x lines rest fits =
      ap (front reading) (sym (first_line (line x) lines rest))
      ∙ front_read reading (line x) (text_of_lines lines ++ rest) x (form.lacks x fits) (form.read x fits)

  -- ---- what is read is what stands there

  -- the values that come next, behind those so far, with the bytes that are left
  pub record Taken (count : ℕ) (bytes : List ℕ) (done : List X) (found : Found) : Type 0 where
    pub more : List X
    pub values : found.0 ≡ done ++ more
    pub at_most : length more ≤ count
    pub all : All P more
    pub left : List ℕ
    pub text : bytes ≡ text_of_lines (map line more) ++ left
    pub whole : (rest : List ℕ) → found.1 ≡ Some rest → (length more ≡ count) × (left ≡ rest)

  none_fits : All P []
  none_fits = λ k d less. absurd (omega arith)

  taken_by : (n : ℕ) (bytes : List ℕ) (done : List X) (o : Option (X × List ℕ)) → front reading bytes ≡ o
      → ((x : X) (rest : List ℕ) → Taken n rest (done ++ x ∷ []) (values_from reading (done ++ x ∷ []) n rest))
      → Taken (suc n) bytes done (option_map_or (λ read. values_from reading (done ++ read.0 ∷ []) n read.1) o (done, None))
  taken_by n bytes done None e later =
      record { more = []; values = sym (append-nil done); at_most = omega arith; all = none_fits; left = bytes; text = refl; whole = λ rest is. absurd (cc) }
  taken_by n bytes done (Some read) e later =
      let x : X = read.0 in
      let f = next_is bytes read.0 read.1 e in
      let k = later read.0 read.1 in
      let most = k.at_most in
      record {
        more = read.0 ∷ k.more;
        values = k.values ∙ append_assoc done (read.0 ∷ []) k.more;
        at_most = omega (arith, most);
        all = All-cons P read.0 k.more f.fits k.all;
        left = k.left;
        text = f.text (map line k.more) k.left k.text;
        whole = λ rest is. (ap suc (k.whole rest is).0, (k.whole rest is).1);
      }

  pub taken : (count : ℕ) (bytes : List ℕ) (done : List X) → Taken count bytes done (values_from reading done count bytes)
  taken zero bytes done =
      record {
        more = [];
        values = sym (append-nil done);
        at_most = omega arith;
        all = none_fits;
        left = bytes;
        text = refl;
        whole = λ rest is. (refl, ap (λ (o : Option (List ℕ)). unwrap_or o []) is);
      }
  taken (suc n) bytes done = taken_by n bytes done (front reading bytes) refl (λ x rest. taken n rest (done ++ x ∷ []))

  -- the values of a group, before which these bytes were left
  pub record Grouped (count : ℕ) (bytes : Option (List ℕ)) (before : List ℕ) (found : Found) : Type 0 where
    pub at_most : length found.0 ≤ count
    pub all : All P found.0
    pub left : List ℕ
    pub text : before ≡ text_of_lines (map line found.0) ++ left
    pub whole : (rest : List ℕ) → found.1 ≡ Some rest → (length found.0 ≡ count) × (left ≡ rest) × (b : List ℕ) × (bytes ≡ Some b)

  pub grouped : (count : ℕ) (bytes : Option (List ℕ)) (before : List ℕ) → ((b : List ℕ) → bytes ≡ Some b → before ≡ b) → Grouped count bytes before (group reading count bytes)
  grouped count None before same = record { at_most = omega arith; all = none_fits; left = before; text = refl; whole = λ rest is. absurd (cc) }
  grouped count (Some b) before same =
      let k = taken count b [] in
      let values : k.more ≡ (values_from reading [] count b).0 = sym k.values in
      record {
        at_most = subst (λ (xs : List X). length xs ≤ count) values k.at_most;
        all = subst (λ (xs : List X). All P xs) values k.all;
        left = k.left;
        text = same b refl ∙ k.text ∙ ap (λ (xs : List X). text_of_lines (map line xs) ++ k.left) values;
        whole = λ rest is. (ap length (sym values) ∙ (k.whole rest is).0, (k.whole rest is).1, b, refl);
      }

  -- the lines of an option
  abbrev pub line_if : Option X → List (List ℕ)
  line_if None = []
  line_if (Some x) = line x ∷ []

  -- one line, before which these bytes were left
  pub record Single (bytes : Option (List ℕ)) (before : List ℕ) (found : Option X × Option (List ℕ)) : Type 0 where
    pub fits : IfSome found.0 P
    pub left : List ℕ
    pub text : before ≡ text_of_lines (line_if found.0) ++ left
    pub whole : (rest : List ℕ) → found.1 ≡ Some rest → (x : X) × (found.0 ≡ Some x) × (left ≡ rest) × (b : List ℕ) × (bytes ≡ Some b)

  single_by : (b before : List ℕ) (o : Option (X × List ℕ)) → before ≡ b → front reading b ≡ o → Single (Some b) before (parted o)
  single_by b before None same e = record { fits = tt; left = before; text = refl; whole = λ rest is. absurd (cc) }
  single_by b before (Some read) same e =
      let f = next_is b read.0 read.1 e in
      record {
        fits = f.fits;
        left = read.1;
        text = same ∙ f.text [] read.1 refl;
        whole = λ rest is. (read.0, refl, ap (λ (o : Option (List ℕ)). unwrap_or o []) is, b, refl);
      }

  pub single_is : (bytes : Option (List ℕ)) (before : List ℕ) → ((b : List ℕ) → bytes ≡ Some b → before ≡ b) → Single bytes before (single reading bytes)
  single_is None before same = record { fits = tt; left = before; text = refl; whole = λ rest is. absurd (cc) }
  single_is (Some b) before same = single_by b before (front reading b) (same b refl) refl

  -- ---- what stands there is read

  pub values_read : (done values : List X) (rest : List ℕ) → All P values → values_from reading done (length values) (text_of_lines (map line values) ++ rest) ≡ (done ++ values, Some rest)
  values_read done [] rest all = ap (λ (xs : List X). (xs, Some rest)) (sym (append-nil done))
  values_read done (x ∷ values) rest all =
      let fits : P x = all 0 x (omega arith) in
      ap (λ (o : Option (X × List ℕ)). option_map_or (λ read. values_from reading (done ++ read.0 ∷ []) (length values) read.1) o (done, None)) (next_read x (map line values) rest fits)
      ∙ values_read (done ++ x ∷ []) values rest (λ k d less. all (suc k) d (omega arith))
      ∙ ap (λ (xs : List X). (xs, Some rest)) (append_assoc done (x ∷ []) values)

  pub group_read : (values : List X) (count : ℕ) (rest : List ℕ) → length values ≡ count → All P values → group reading count (Some (text_of_lines (map line values) ++ rest)) ≡ (values, Some rest)
  group_read values count rest so_many all =
      ap (λ n. values_from reading [] n (text_of_lines (map line values) ++ rest)) (sym so_many) ∙ values_read [] values rest all

  pub single_read : (x : X) (rest : List ℕ) → P x → single reading (Some (text_of_lines (line x ∷ []) ++ rest)) ≡ (Some x, Some rest)
  single_read x rest fits = ap parted (next_read x [] rest fits)

  -- ---- one more value of a loop

  module _ (count : ℕ) (whole : Found) (done : List X) (rest : List ℕ) (so_far : values_from reading done (count - length done) rest ≡ whole) where
    pub values_end : count ≤ length done → (done, Some rest) ≡ whole
    values_end most = let none : 0 ≡ count - length done = omega arith in ap (λ n. values_from reading done n rest) none ∙ so_far

    module _ (less : length done < count) where
      abbrev on_next : Option (X × List ℕ) → Found
      on_next o = option_map_or (λ read. values_from reading (done ++ read.0 ∷ []) (count - (length done + 1)) read.1) o (done, None)

      here : on_next (front reading rest) ≡ whole
      here = let more : suc (count - (length done + 1)) ≡ count - length done = omega arith in ap (λ n. values_from reading done n rest) more ∙ so_far

      pub value_more : (x : X) (behind : List ℕ) → front reading rest ≡ Some (x, behind)
          → values_from reading (done ++ x ∷ []) (count - length (done ++ x ∷ [])) behind ≡ whole
      value_more x behind is =
          let longer : length (done ++ x ∷ []) ≡ length done + 1 = length-append done (x ∷ []) in
          ap (λ n. values_from reading (done ++ x ∷ []) (count - n) behind) longer ∙ sym (ap on_next is) ∙ here

      pub value_missing : front reading rest ≡ None → (done, None) ≡ whole
      value_missing is = sym (ap on_next is) ∙ here
