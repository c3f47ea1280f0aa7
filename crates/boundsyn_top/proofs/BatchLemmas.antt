-- The texts of a list, as they are taken one by one.
use Rattle.std.specs.Prelude.{IfSome, IfOk, Result, Ok, Err, Contains}
use Rattle.std.specs.List.{AllZip}
use Rattle.std.proofs.Common.{◌≡◌, ◌+◌, ◌<◌, ◌≤◌, ℕ, suc, List, [], ◌∷◌, ◌++◌, get_or, length, map, take, refl, sym, subst, ap, ap₂, ◌∙◌, arith, Option, Some, None}
use Rattle.std.proofs.lemmas.List.{take_more}
use Rattle.std.proofs.lemmas.List.Elements.{Contains-get_or}
use Rattle.input_output.specs.Faults.{Rose}
use Rattle.input_output.specs.Files.{Files, bytes_under}
use Rattle.input_output.proofs.EdgeLemmas.{Rose-earlier}
use Rattle.batch_answer.specs.Taken.{AreTexts}
use Rattle.batch_answer.specs.declared.texts.TakenText.{TakenText}
use Rattle.boundsyn_top.specs.Batch.{AreFilesOf, IsTakenAs, OneRose}

-- the bytes of the files whose texts were taken
pub record FilesTaken (told : Option Files) (names : List (List ℕ)) (texts : List TakenText) : Type 0 where
  pub files : List (List ℕ)
  pub of_names : AreFilesOf told names files
  pub are_texts : AreTexts texts files

one_more : (told : Option Files) (name bytes : List ℕ) (names rest : List (List ℕ)) → IfSome told (λ files. bytes ≡ bytes_under files name) →
    AreFilesOf told names rest → AreFilesOf told (name ∷ names) (bytes ∷ rest)
one_more None name bytes names rest one more = tt
one_more (Some files) name bytes names rest one more = ap₂ (λ x xs. x ∷ xs) one more

none_taken : (told : Option Files) → AreFilesOf told [] []
none_taken None = tt
none_taken (Some files) = refl

pub files_taken : (told : Option Files) (names : List (List ℕ)) (texts : List TakenText) → AllZip (IsTakenAs told) names texts → FilesTaken told names texts
files_taken told [] [] all = record { files = []; of_names = none_taken told; are_texts = tt }
files_taken told [] (text ∷ texts) all = absurd all
files_taken told (name ∷ names) [] all = absurd all
files_taken told (name ∷ names) (text ∷ texts) all =
    let rest = files_taken told names texts all.1 in
    record {
      files = all.0.bytes ∷ rest.files;
      of_names = one_more told name all.0.bytes names rest.files all.0.are_told rest.of_names;
      are_texts = (all.0.holds, rest.are_texts);
    }

pub as_many : (told : Option Files) (names : List (List ℕ)) (texts : List TakenText) → AllZip (IsTakenAs told) names texts → length names ≡ length texts
as_many told [] [] all = refl
as_many told [] (text ∷ texts) all = absurd all
as_many told (name ∷ names) [] all = absurd all
as_many told (name ∷ names) (text ∷ texts) all = ap suc (as_many told names texts all.1)

-- what two facts of a result say together
pub if_both : {T E : Type 0} (r : Result T E) (P Q R : T → Type 0) → ((x : T) → P x → Q x → R x) → IfOk r P → IfOk r Q → IfOk r R
if_both (Ok x) P Q R f p q = f x p q
if_both (Err e) P Q R f p q = tt

-- one text more
pub zip_push : {A B : Type 0} (R : A → B → Type 0) (xs : List A) (ys : List B) (x : A) (y : B) → AllZip R xs ys → R x y →
    AllZip R (xs ++ x ∷ []) (ys ++ y ∷ [])
zip_push R [] [] x y all one = (one, tt)
zip_push R [] (b ∷ ys) x y all one = absurd all
zip_push R (a ∷ xs) [] x y all one = absurd all
zip_push R (a ∷ xs) (b ∷ ys) x y all one = (all.0, zip_push R xs ys x y all.1 one)

-- the next name
pub listed_at : (names : List (List ℕ)) (i : ℕ) (item name : List ℕ) → i < length names → item ≡ get_or names i item → name ≡ item → Contains names name
listed_at names i item name less is same = subst (Contains names) (sym (same ∙ is)) (Contains-get_or names i item less)

pub listed_more : (names : List (List ℕ)) (i : ℕ) (item name : List ℕ) → i < length names → item ≡ get_or names i item → name ≡ item →
    take (i + 1) names ≡ take i names ++ name ∷ []
listed_more names i item name less is same = take_more names i item less ∙ ap (λ x. take i names ++ x ∷ []) (sym (same ∙ is))

-- what was taken of the texts of a list so far, and what became of the shelf
pub record TakenSoFar (told later : Option Files) (before now : List ℕ → ℕ) (names done : List (List ℕ)) (texts : List TakenText) : Type 0 where
  pub files : later ≡ told
  pub taken : AllZip (IsTakenAs told) done texts
  pub others : (name : List ℕ) → (Contains names name → ⊥) → now name ≡ before name
  pub rises : (any : List ℕ) → before any ≤ now any

pub taken_none : (told : Option Files) (before : List ℕ → ℕ) (names : List (List ℕ)) → TakenSoFar told told before before names [] []
taken_none told before names = record { files = refl; taken = tt; others = λ name other. refl; rises = λ any. omega arith }

-- what becomes of the shelf where one more text is taken
pub record TakesOne (told later : Option Files) (before now : List ℕ → ℕ) (name : List ℕ) : Type 0 where
  pub files : later ≡ told
  pub others : (other : List ℕ) → (other ≡ name → ⊥) → now other ≡ before other
  pub rises : (any : List ℕ) → before any ≤ now any

-- whatever is the outcome, other files are left alone
pub others_more : (told mid later : Option Files) (before between now : List ℕ → ℕ) (names done : List (List ℕ)) (texts : List TakenText) (name : List ℕ) →
    TakenSoFar told mid before between names done texts → Contains names name → TakesOne mid later between now name →
    (other : List ℕ) → (Contains names other → ⊥) → now other ≡ before other
others_more told mid later before between now names done texts name so_far among one other foreign =
    one.others other (λ same. foreign (subst (λ n. Contains names n) (sym same) among)) ∙ so_far.others other foreign

pub taken_more : (told mid later : Option Files) (before between now : List ℕ → ℕ) (names done done' : List (List ℕ)) (texts texts' : List TakenText)
    (name : List ℕ) (text : TakenText) →
    TakenSoFar told mid before between names done texts → Contains names name → TakesOne mid later between now name → IsTakenAs mid name text →
    done' ≡ done ++ name ∷ [] → texts' ≡ texts ++ text ∷ [] → TakenSoFar told later before now names done' texts'
taken_more told mid later before between now names done done' texts texts' name text so_far among one taken done_is texts_is = record {
  files = one.files ∙ so_far.files;
  taken = rw (done_is, texts_is) (zip_push (IsTakenAs told) done texts name text so_far.taken (subst (λ o. IsTakenAs o name text) so_far.files taken));
  others = others_more told mid later before between now names done texts name so_far among one;
  rises = λ any. let a : before any ≤ between any = so_far.rises any in let b : between any ≤ now any = one.rises any in omega (arith, a, b);
}

pub one_rose : (told mid : Option Files) (before between now : List ℕ → ℕ) (names done : List (List ℕ)) (texts : List TakenText) (name : List ℕ) →
    TakenSoFar told mid before between names done texts → Contains names name → Rose (between name) (now name) → OneRose before now names
one_rose told mid before between now names done texts name so_far among rose = record {
  name = name;
  among = among;
  rose = Rose-earlier (before name) (between name) (now name) (so_far.rises name) rose;
}
