-- Files that are taken, and files that couldn't be.
use Rattle.std.specs.Prelude.{IfSome}
use Rattle.std.proofs.Common.{◌<◌, ℕ, suc, List, [], length, replicate, refl, subst, arith, Option, Some, None}
use Rattle.std.proofs.lemmas.List.{length-replicate}
use Rattle.input_output.specs.Files.{Files, bytes_under}
use Rattle.boundsyn_top.specs.Files.{AreOfFile, HoldsOfFile}

-- a text of one byte too many
long_text : (n : ℕ) → (text : List ℕ) × (n < length text)
long_text n = (replicate (suc n) 0, omega (arith, length-replicate {A = ℕ} (suc n) 0))

pub too_long_text : (told : Option Files) (name : List ℕ) (limit : ℕ) → IfSome told (λ files. limit < length (bytes_under files name)) →
    (text : List ℕ) × AreOfFile told name text × (limit < length text)
too_long_text None name limit long = let t = long_text limit in (t.0, tt, t.1)
too_long_text (Some files) name limit long = (bytes_under files name, refl, long)

-- some bytes of a file
pub some_bytes : (told : Option Files) (name : List ℕ) → (bytes : List ℕ) × AreOfFile told name bytes
some_bytes None name = ([], tt)
some_bytes (Some files) name = (bytes_under files name, refl)

-- what holds of a file's bytes, where they are told
pub of_told : (files : Files) (name : List ℕ) (P : List ℕ → Type 0) → HoldsOfFile (Some files) name P → P (bytes_under files name)
of_told files name P h = subst P h.are_told h.holds
