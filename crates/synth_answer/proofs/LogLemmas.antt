-- What holds of the logs of a search holds of those of a document, however its lines are numbered.
use Rattle.std.proofs.Common.{◌≡◌, ℕ, ◌+◌, List, [], ◌∷◌, All, length, map, refl, ap}
use Rattle.std.proofs.lemmas.List.Elements.{All-cons, All-head, All-map, All-tail}
use Rattle.size_search.specs.declared.size_log.SizeLog.{SizeLog}
use Rattle.document_text.specs.Parts.{LogPart}
use Rattle.document_text.specs.States.{logs_at}
use Rattle.document_text.specs.Order.{log_place}
use Rattle.synth_answer.specs.Reply.{part_of}

-- it makes no difference in which line the head stands
abbrev pub IsOfNoLine : (LogPart → Type 0) → Type 0
IsOfNoLine P = (l : LogPart) (n : ℕ) → P l → P (record l { line = n })

pub all_at : (P : LogPart → Type 0) → IsOfNoLine P → (n : ℕ) (logs : List LogPart) → All P logs → All P (logs_at n logs)
all_at P free n [] all = all
all_at P free n (l ∷ logs) all =
    All-cons P (record l { line = n }) (logs_at (n + 1 + length l.entries) logs) (free l n (All-head P l logs all))
    (all_at P free (n + 1 + length l.entries) logs (All-tail P l logs all))

pub all_parts_at : (P : LogPart → Type 0) → IsOfNoLine P → (n : ℕ) (logs : List SizeLog) → All (λ l. P (part_of l)) logs → All P (logs_at n (map part_of logs))
all_parts_at P free n logs all = all_at P free n (map part_of logs) (All-map P part_of logs all)

pub places_at : (n : ℕ) (logs : List LogPart) → map log_place (logs_at n logs) ≡ map log_place logs
places_at n [] = refl
places_at n (l ∷ logs) = ap (λ ps. log_place l ∷ ps) (places_at (n + 1 + length l.entries) logs)
