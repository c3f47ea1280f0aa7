-- The answers of `core`: guarantees of a text that can't be met together, none of which may be left out (this project's own).
use Rattle.std.specs.Prelude.{◌≡◌, ℕ, ◌+◌, ◌-◌, ◌<◌, ◌≤◌, Bool, true, false, List, [], ◌∷◌, ◌++◌, Option, codes, decimal, length, slice_set}
use Rattle.text_limits.specs.declared.TheConstants.{SMALL_LIMITS}
use Rattle.letters_and_lassos.specs.declared.kinds.Kind.{Kind}
use Rattle.spec_faults.specs.declared.code.SpecCode.{SpecCode}
use Rattle.spec_faults.specs.declared.code.SpecCode.TheVariants.{TooManyGuarantees}
use Rattle.tlsf_expand.specs.FlatText.{FlatText}
use Rattle.flat_text.specs.FlatOf.{IsFlatOf}
use Rattle.spec_problems.specs.OfText.{IsFirstFault}
use Rattle.synth_engine.specs.declared.settings.Settings.{Settings}
use Rattle.synth_answer.specs.Answer.{Answers, IsAnswerFor, defeats}
use Rattle.program_replies.specs.Lines.{line_count, refusal_line}
use Rattle.core_answer.specs.Over.{IsFaultOver, IsGroundOver}

-- == which guarantees ==

-- how many guarantees a text has
abbrev pub guarantees_in : FlatText → ℕ
guarantees_in flat = length flat.expanded.sections.guarantee

-- the numbers of those that are kept, rising; the first of the list has this one
abbrev pub numbers_from : ℕ → List Bool → List ℕ
numbers_from n [] = []
numbers_from n (true ∷ keep) = n ∷ numbers_from (n + 1) keep
numbers_from n (false ∷ keep) = numbers_from (n + 1) keep

-- guarantees have numbers from 1
abbrev pub numbers : List Bool → List ℕ
numbers keep = numbers_from 1 keep

abbrev pub without : ℕ → List Bool → List Bool
without n keep = slice_set keep (n - 1) false

-- == the lines ==

-- a line with a word and a number
abbrev pub numbered_line : List ℕ → ℕ → List ℕ
numbered_line word n = word ++ codes " " ++ decimal n ++ codes "\n"

-- a document behind the number of its lines
abbrev pub document_part : List ℕ → List ℕ
document_part bytes = numbered_line (codes "document") (line_count bytes) ++ bytes

abbrev pub guarantee_lines : List ℕ → List ℕ
guarantee_lines [] = []
guarantee_lines (n ∷ ns) = numbered_line (codes "guarantee") n ++ guarantee_lines ns

abbrev pub without_parts : List ℕ → List (List ℕ) → List ℕ
without_parts [] others = []
without_parts (n ∷ ns) [] = []
without_parts (n ∷ ns) (bytes ∷ others) = numbered_line (codes "without") n ++ document_part bytes ++ without_parts ns others

-- the answer over guarantees, with the document over them, and for each of them what comes without it
abbrev pub core_lines : List Bool → List ℕ → List (List ℕ) → List ℕ
core_lines keep document others =
    codes "core " ++ decimal (length (numbers keep)) ++ codes " of " ++ decimal (length keep) ++ codes "\n"
    ++ guarantee_lines (numbers keep) ++ document_part document ++ without_parts (numbers keep) others ++ codes "end core\n"

-- == the parts ==

-- the bytes and the status over these guarantees, and whether they have a counter-machine
abbrev pub IsToldOver : List ℕ → List Bool → Option Kind → Settings → List ℕ → ℕ → Bool → Type 0
IsToldOver text keep kind settings bytes status defeat = IsAnswerFor (IsFaultOver text keep kind) (IsGroundOver text keep) kind settings bytes status defeat

-- these bytes have, or don't have, a counter-machine over these guarantees
pub record Tells (text : List ℕ) (keep : List Bool) (kind : Option Kind) (settings : Settings) (defeat : Bool) (bytes : List ℕ) : Type 0 where
  pub status : ℕ
  pub is_told : IsToldOver text keep kind settings bytes status defeat

-- each number has its bytes, in order
abbrev pub EachHas : (ℕ → List ℕ → Type 0) → List ℕ → List (List ℕ) → Type 0
EachHas P [] [] = Unit {0}
EachHas P [] (bytes ∷ others) = ⊥
EachHas P (n ∷ ns) [] = ⊥
EachHas P (n ∷ ns) (bytes ∷ others) = P n bytes × EachHas P ns others

-- of each of these guarantees, the bytes without it, which have no counter-machine: a document, or the line of a refusal
abbrev pub AreSpared : List ℕ → List Bool → Option Kind → Settings → List ℕ → List (List ℕ) → Type 0
AreSpared text keep kind settings ns others = EachHas (λ n bytes. Tells text (without n keep) kind settings false bytes) ns others

-- The bytes tell which of so many guarantees a document shows that they can't be met together, and that each of them is needed: without
-- it none was shown so.
pub record IsToldCore (text : List ℕ) (kind : Option Kind) (settings : Settings) (count : ℕ) (bytes : List ℕ) : Type 0 where
  pub keep : List Bool
  pub each : length keep ≡ count
  pub document : List ℕ
  pub defeated : Tells text keep kind settings true document
  pub others : List (List ℕ)
  pub spared : AreSpared text keep kind settings (numbers keep) others
  pub lines : bytes ≡ core_lines keep document others

-- they are told of a text that has a document with a counter-machine itself
pub record IsCore (text : List ℕ) (kind : Option Kind) (settings : Settings) (bytes : List ℕ) : Type 0 where
  pub flat : FlatText
  pub is_flat : IsFlatOf SMALL_LIMITS text kind flat
  pub few : guarantees_in flat ≤ 64
  pub whole_bytes : List ℕ
  pub whole_status : ℕ
  pub whole : Answers text kind settings whole_bytes whole_status
  pub whole_defeats : defeats whole ≡ true
  pub told : IsToldCore text kind settings (guarantees_in flat) bytes

-- == the answers ==

-- the first fault, and where a text has none, that it has more guarantees than `core` takes
pub data IsCoreFault (text : List ℕ) (kind : Option Kind) : SpecCode → ℕ → Type 0 where
  of_text : (code : SpecCode) (place : ℕ) → IsFirstFault text kind code place → IsCoreFault text kind code place
  too_many : (flat : FlatText) → IsFlatOf SMALL_LIMITS text kind flat → ((code : SpecCode) (place : ℕ) → IsFirstFault text kind code place → ⊥) → 64 < guarantees_in flat
      → IsCoreFault text kind TooManyGuarantees 0

-- The bytes and the status of `core`: the line of its first fault; the answer of `synth`, where that has no counter-machine; or guarantees
-- that can't be met together.
pub data CoreAnswers (text : List ℕ) (kind : Option Kind) (settings : Settings) (bytes : List ℕ) (status : ℕ) : Type 0 where
  refused : (code : SpecCode) (position : ℕ) → status ≡ 1 → IsCoreFault text kind code position → bytes ≡ refusal_line code position
      → CoreAnswers text kind settings bytes status
  spared : (flat : FlatText) → IsFlatOf SMALL_LIMITS text kind flat → guarantees_in flat ≤ 64 → (a : Answers text kind settings bytes status) → defeats a ≡ false
      → CoreAnswers text kind settings bytes status
  core : status ≡ 20 → IsCore text kind settings bytes → CoreAnswers text kind settings bytes status
