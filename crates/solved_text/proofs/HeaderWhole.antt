-- A header as a whole: it has no bad line exactly where its text stands there.
use Rattle.std.proofs.Common.{◌≡◌, ℕ, ◌+◌, ◌-◌, ◌^◌, ◌<◌, ◌≤◌, Bool, true, false, cond, Option, Some, None, List, [], ◌∷◌, ◌++◌, refl, sym, ap, ◌∙◌, arith, decimal, append_assoc, inl, inr}
use Rattle.std.specs.Prelude.{⊤, option_map, codes, unwrap_or}
use Rattle.std.specs.Option.{option_or}
use Rattle.std.specs.Str.{bytes_eq}
use Rattle.std.specs.Cmp.Lexicographic.{bytes_decides}
use Rattle.std.proofs.lemmas.Bool.{and_parts}
use Rattle.std_lemmas.proofs.Options.{mapped_some, either_some}
use Rattle.letters_and_lassos.specs.declared.kinds.Kind.{Kind}
use Rattle.letters_and_lassos.specs.declared.kinds.Kind.TheVariants.{Mealy, Moore}
use Rattle.aiger_text.specs.Words.{number_within}
use Rattle.aiger_text.specs.CircuitText.{text_of_lines}
use Rattle.aiger_text.proofs.Numbers.{Lacks, number_within-decimal}
use Rattle.document_text.specs.Header.{behind, front, kind_in, number_behind}
use Rattle.document_text.specs.Lines.{kind_line, end_text}
use Rattle.document_text.proofs.LineRead.{behind_is, behind_words, capped_read, front_is, front_read, follows_words, number_behind_is, number_is, text_lacks, words_lack, words_read}
use Rattle.document_text.proofs.HeaderWhole.{first_line, in_range_bounds, kind_is, kind_lacks, kind_read}
use Rattle.solved_text.specs.declared.documents.Verdict.{Verdict}
use Rattle.solved_text.specs.declared.documents.Verdict.TheVariants.{Realizable, Unrealizable, Unknown}
use Rattle.solved_text.specs.declared.header.Header.{Header}
use Rattle.solved_text.specs.Lines.{refuted_line, semantics_part, semantics_text, verdict_line, version_text}
use Rattle.solved_text.specs.Header.{HeaderRead, has_its_place, header_of, is_number_of_states, may_stand, most_states, no_header, on_kind, on_refuted, on_semantics, on_verdict, on_version, refuted_at, refuted_in, tells_states, verdict_in}

-- ---- the line of the verdict

-- the number of a verdict
abbrev pub states_of : Verdict → ℕ
states_of (Realizable n) = n
states_of (Unrealizable n) = n
states_of Unknown = 0

small_states : (n : ℕ) → is_number_of_states n ≡ true → n ≤ most_states
small_states n is = (in_range_bounds 1 most_states n is).1

pub few_states : (verdict : Verdict) → tells_states verdict ≡ true → states_of verdict ≤ most_states
few_states (Realizable n) is = small_states n is
few_states (Unrealizable n) is = small_states n is
few_states Unknown is = omega arith

verdict_read : (verdict : Verdict) → states_of verdict ≤ most_states → verdict_in (verdict_line verdict) ≡ Some verdict
verdict_read (Realizable n) small = rw (capped_read n (omega arith)) refl
verdict_read (Unrealizable n) small = rw (capped_read n (omega arith)) refl
verdict_read Unknown small = refl

verdict_lacks : (verdict : Verdict) → states_of verdict ≤ most_states → Lacks 10 (verdict_line verdict)
verdict_lacks (Realizable n) small = text_lacks (codes "verdict realizable ") n (words_lack (codes "verdict realizable ") refl) (omega arith)
verdict_lacks (Unrealizable n) small = text_lacks (codes "verdict unrealizable ") n (words_lack (codes "verdict unrealizable ") refl) (omega arith)
verdict_lacks Unknown small = words_lack (codes "verdict unknown") refl

-- a verdict with a number, behind its words
one_is : (words line : List ℕ) (f : ℕ → Verdict) (verdict : Verdict) → ((n : ℕ) → verdict_line (f n) ≡ words ++ decimal n) → ((n : ℕ) → states_of (f n) ≡ n)
    → states_of verdict ≤ most_states → option_map f (number_behind words line) ≡ Some verdict → line ≡ verdict_line verdict
one_is words line f verdict text size small is =
    let k = mapped_some f (number_behind words line) verdict is in
    let n : states_of verdict ≡ k.0 = ap states_of (sym k.2) ∙ size k.0 in
    let less : k.0 < 2 ^ 32 - 1 = omega (arith, n, small) in
    number_behind_is words line k.0 less k.1 ∙ sym (text k.0) ∙ ap verdict_line k.2

verdict_by : (line : List ℕ) (verdict : Verdict) → states_of verdict ≤ most_states → (b : Bool) → bytes_eq line (codes "verdict unknown") ≡ b
    → cond b (Some Unknown) (option_or (option_map Realizable (number_behind (codes "verdict realizable ") line)) (option_map Unrealizable (number_behind (codes "verdict unrealizable ") line))) ≡ Some verdict
    → line ≡ verdict_line verdict
verdict_by line verdict small true e is = (bytes_decides line (codes "verdict unknown")).0 e ∙ ap verdict_line (ap (λ (o : Option Verdict). unwrap_or o Unknown) is)
verdict_by line verdict small false e is = elim (either_some _ _ verdict is) [
  | inl a ↦ one_is (codes "verdict realizable ") line Realizable verdict (λ n. refl) (λ n. refl) small a
  | inr a ↦ one_is (codes "verdict unrealizable ") line Unrealizable verdict (λ n. refl) (λ n. refl) small a
]

verdict_is : (line : List ℕ) (verdict : Verdict) → states_of verdict ≤ most_states → verdict_in line ≡ Some verdict → line ≡ verdict_line verdict
verdict_is line verdict small is = verdict_by line verdict small (bytes_eq line (codes "verdict unknown")) refl is

-- ---- the line of the refuted sizes

refuted_is : (states : ℕ) (line : List ℕ) (refuted : ℕ) → states ≤ most_states → refuted_in states line ≡ Some refuted → (line ≡ refuted_line refuted) × (refuted ≤ states - 1)
refuted_is states line refuted small is =
    let k = follows_words (codes "refuted ") line (number_within (states - 1)) refuted is in
    let n = number_is (states - 1) refuted k.0 (omega arith) k.2 in
    (k.1 ∙ ap (λ (t : List ℕ). codes "refuted " ++ t) n.word_is, n.within)

refuted_read : (states refuted : ℕ) → states ≤ most_states → refuted ≤ states - 1 → refuted_in states (refuted_line refuted) ≡ Some refuted
refuted_read states refuted small within =
    words_read (codes "refuted ") (decimal refuted) (number_within (states - 1)) refuted (number_within-decimal refuted (omega arith) (states - 1) within)

-- with a circuit a number below that of the states, else none
abbrev pub MayBeRefuted : Verdict → Option ℕ → Type 0
MayBeRefuted (Realizable n) None = ⊥
MayBeRefuted (Realizable n) (Some refuted) = refuted ≤ n - 1
MayBeRefuted (Unrealizable n) None = ⊥
MayBeRefuted (Unrealizable n) (Some refuted) = refuted ≤ n - 1
MayBeRefuted Unknown None = ⊤
MayBeRefuted Unknown (Some refuted) = ⊥

-- there is no such line without a circuit
abbrev pub refuted_part : Option ℕ → List ℕ
refuted_part None = []
refuted_part (Some refuted) = text_of_lines (refuted_line refuted ∷ [])

abbrev pub refuted_lines : Option ℕ → ℕ
refuted_lines None = 0
refuted_lines (Some refuted) = 1

-- ---- the header

-- a header in which each line was read
abbrev pub header_with : Verdict → Kind → Bool → Option ℕ → Header
header_with verdict kind converted refuted = record { verdict = Some verdict; kind = Some kind; converted = converted; refuted = refuted; bad = None }

abbrev pub semantics_lines : Bool → ℕ
semantics_lines converted = cond converted 1 0

-- the line behind a header
abbrev pub line_behind : ℕ → Bool → Option ℕ → ℕ
line_behind first converted refuted = first + 3 + semantics_lines converted + refuted_lines refuted

-- the lines up to that of the semantics
abbrev pub lines_before : Verdict → Kind → Bool → List ℕ
lines_before verdict kind converted = version_text ++ (text_of_lines (verdict_line verdict ∷ kind_line kind ∷ []) ++ semantics_part converted kind)

-- a header without a bad line
pub record GoodHeader (circuit : Bool) (first : ℕ) (bytes : List ℕ) (read : HeaderRead) : Type 0 where
  pub verdict : Verdict
  pub kind : Kind
  pub converted : Bool
  pub refuted : Option ℕ
  pub rest : List ℕ
  pub stands : may_stand circuit verdict ≡ true
  pub may : MayBeRefuted verdict refuted
  pub text : bytes ≡ lines_before verdict kind converted ++ (refuted_part refuted ++ rest)
  pub read_is : read ≡ record { header = header_with verdict kind converted refuted; line = line_behind first converted refuted; rest = rest }

-- what stands behind the semantics
pub record GoodRest (verdict : Verdict) (kind : Kind) (converted : Bool) (n : ℕ) (bytes : List ℕ) (read : HeaderRead) : Type 0 where
  pub refuted : Option ℕ
  pub rest : List ℕ
  pub may : MayBeRefuted verdict refuted
  pub text : bytes ≡ refuted_part refuted ++ rest
  pub read_is : read ≡ record { header = header_with verdict kind converted refuted; line = n + refuted_lines refuted; rest = rest }

abbrev h3 : Verdict → Kind → Bool → Header
h3 verdict kind converted = header_with verdict kind converted None

module _ (verdict : Verdict) (kind : Kind) (converted : Bool) (n : ℕ) (bytes : List ℕ) where
  refuted_by : (states : ℕ) → states ≤ most_states → ((refuted : ℕ) → refuted ≤ states - 1 → MayBeRefuted verdict (Some refuted)) → (o : Option (ℕ × List ℕ)) → front (refuted_in states) bytes ≡ o
      → (on_refuted (h3 verdict kind converted) n o).header.bad ≡ None → GoodRest verdict kind converted n bytes (on_refuted (h3 verdict kind converted) n o)
  refuted_by states small may None e good = absurd (cc)
  refuted_by states small may (Some p) e good =
      let f = front_is (refuted_in states) bytes p.0 p.1 e in
      let r = refuted_is states f.line p.0 small f.read in
      record {
        refuted = Some p.0;
        rest = p.1;
        may = may p.0 r.1;
        text = f.bytes_are ∙ ap (λ (l : List ℕ). l ++ 10 ∷ p.1) r.0 ∙ first_line (refuted_line p.0) [] p.1;
        read_is = refl;
      }

rest_by : (verdict : Verdict) (kind : Kind) (converted : Bool) (n : ℕ) (bytes : List ℕ) → states_of verdict ≤ most_states
    → (refuted_at (h3 verdict kind converted) n verdict bytes).header.bad ≡ None → GoodRest verdict kind converted n bytes (refuted_at (h3 verdict kind converted) n verdict bytes)
rest_by (Realizable states) kind converted n bytes small good =
    refuted_by (Realizable states) kind converted n bytes states small (λ r le. le) (front (refuted_in states) bytes) refl good
rest_by (Unrealizable states) kind converted n bytes small good =
    refuted_by (Unrealizable states) kind converted n bytes states small (λ r le. le) (front (refuted_in states) bytes) refl good
rest_by Unknown kind converted n bytes small good =
    record { refuted = None; rest = bytes; may = tt; text = refl; read_is = λ k. record { header = h3 Unknown kind converted; line = add_zero n k; rest = bytes } }
  where
    add_zero : (n : ℕ) → n ≡ n + 0
    add_zero n = omega arith

-- the whole of a text from its parts
whole_text : (b0 b1 b2 b3 b4 l1 l2 semantics : List ℕ) → b0 ≡ version_text ++ b1 → b1 ≡ l1 ++ 10 ∷ b2 → b2 ≡ l2 ++ 10 ∷ b3 → b3 ≡ semantics ++ b4
    → b0 ≡ (version_text ++ (text_of_lines (l1 ∷ l2 ∷ []) ++ semantics)) ++ b4
whole_text b0 b1 b2 b3 b4 l1 l2 semantics e0 e1 e2 e3 =
    let second : b2 ≡ text_of_lines (l2 ∷ []) ++ b3 = e2 ∙ first_line l2 [] b3 in
    let first : b1 ≡ text_of_lines (l1 ∷ l2 ∷ []) ++ b3 = e1 ∙ ap (λ (b : List ℕ). l1 ++ 10 ∷ b) second ∙ first_line l1 (l2 ∷ []) b3 in
    e0 ∙ ap (λ (b : List ℕ). version_text ++ b) (first ∙ ap (λ (b : List ℕ). text_of_lines (l1 ∷ l2 ∷ []) ++ b) e3 ∙ sym (append_assoc (text_of_lines (l1 ∷ l2 ∷ [])) semantics b4))
    ∙ sym (append_assoc version_text (text_of_lines (l1 ∷ l2 ∷ []) ++ semantics) b4)

module _ (circuit : Bool) (first : ℕ) (b0 : List ℕ) where
  module _ (b1 : List ℕ) (e0 : behind version_text b0 ≡ Some b1) (v : Verdict) (b2 : List ℕ) (e1 : front verdict_in b1 ≡ Some (v, b2)) (stands : may_stand circuit v ≡ true)
      (k : Kind) (b3 : List ℕ) (e2 : front kind_in b2 ≡ Some (k, b3)) where
    tells : states_of v ≤ most_states
    tells = few_states v (and_parts (has_its_place circuit v) (tells_states v) stands).1

    text_with : (semantics b4 : List ℕ) → b3 ≡ semantics ++ b4 → b0 ≡ (version_text ++ (text_of_lines (verdict_line v ∷ kind_line k ∷ []) ++ semantics)) ++ b4
    text_with semantics b4 e3 =
        let f1 = front_is verdict_in b1 v b2 e1 in
        let f2 = front_is kind_in b2 k b3 e2 in
        whole_text b0 b1 b2 b3 b4 (verdict_line v) (kind_line k) semantics (behind_is version_text b0 b1 e0)
        (f1.bytes_are ∙ ap (λ (l : List ℕ). l ++ 10 ∷ b2) (verdict_is f1.line v tells f1.read))
        (f2.bytes_are ∙ ap (λ (l : List ℕ). l ++ 10 ∷ b3) (kind_is f2.line k f2.read)) e3

    with_rest : (converted : Bool) (b4 : List ℕ) (n : ℕ) (read : HeaderRead) → b3 ≡ semantics_part converted k ++ b4 → n ≡ first + 3 + semantics_lines converted
        → GoodRest v k converted n b4 read → GoodHeader circuit first b0 read
    with_rest converted b4 n read e3 at g = record {
      verdict = v;
      kind = k;
      converted = converted;
      refuted = g.refuted;
      rest = g.rest;
      stands = stands;
      may = g.may;
      text = text_with (semantics_part converted k) b4 e3 ∙ ap (λ (b : List ℕ). lines_before v k converted ++ b) g.text;
      read_is = g.read_is ∙ ap (λ (n : ℕ). record { header = header_with v k converted g.refuted; line = n + refuted_lines g.refuted; rest = g.rest }) at;
    }

    after_semantics : (o : Option (List ℕ)) → behind (semantics_text k) b3 ≡ o → (on_semantics (h3 v k false) (first + 3) v b3 o).header.bad ≡ None
        → GoodHeader circuit first b0 (on_semantics (h3 v k false) (first + 3) v b3 o)
    after_semantics None e3 good = with_rest false b3 (first + 3) _ refl (omega arith) (rest_by v k false (first + 3) b3 tells good)
    after_semantics (Some b4) e3 good =
        with_rest true b4 (first + 3 + 1) _ (behind_is (semantics_text k) b3 b4 e3) refl (rest_by v k true (first + 3 + 1) b4 tells good)

  abbrev h1 : Verdict → Header
  h1 v = record { verdict = Some v; kind = None; converted = false; refuted = None; bad = None }

  module _ (b1 : List ℕ) (e0 : behind version_text b0 ≡ Some b1) where
    after_verdict : (v : Verdict) (b2 : List ℕ) (o : Option (Kind × List ℕ)) → front verdict_in b1 ≡ Some (v, b2) → may_stand circuit v ≡ true → front kind_in b2 ≡ o
        → (on_kind (h1 v) first v o).header.bad ≡ None → GoodHeader circuit first b0 (on_kind (h1 v) first v o)
    after_verdict v b2 None e1 stands e2 good = absurd (cc)
    after_verdict v b2 (Some p) e1 stands e2 good = after_semantics b1 e0 v b2 e1 stands p.0 p.1 e2 (behind (semantics_text p.0) p.1) refl good

    with_place : (v : Verdict) (b2 : List ℕ) (b : Bool) → front verdict_in b1 ≡ Some (v, b2) → may_stand circuit v ≡ b
        → (cond b (on_kind (h1 v) first v (front kind_in b2)) (record { header = record (h1 v) { bad = Some (first + 1) }; line = first + 1; rest = [] })).header.bad ≡ None
        → GoodHeader circuit first b0 (cond b (on_kind (h1 v) first v (front kind_in b2)) (record { header = record (h1 v) { bad = Some (first + 1) }; line = first + 1; rest = [] }))
    with_place v b2 true e1 stands good = after_verdict v b2 (front kind_in b2) e1 stands refl good
    with_place v b2 false e1 stands good = absurd (cc)

    after_version : (o : Option (Verdict × List ℕ)) → front verdict_in b1 ≡ o → (on_verdict no_header circuit first o).header.bad ≡ None
        → GoodHeader circuit first b0 (on_verdict no_header circuit first o)
    after_version None e1 good = absurd (cc)
    after_version (Some p) e1 good = with_place p.0 p.1 (may_stand circuit p.0) e1 refl good

  from_start : (o : Option (List ℕ)) → behind version_text b0 ≡ o → (on_version circuit first o).header.bad ≡ None → GoodHeader circuit first b0 (on_version circuit first o)
  from_start None e0 good = absurd (cc)
  from_start (Some b1) e0 good = after_version b1 e0 (front verdict_in b1) refl good

  -- a header without a bad line is its text
  pub good_header : (header_of circuit first b0).header.bad ≡ None → GoodHeader circuit first b0 (header_of circuit first b0)
  good_header good = from_start (behind version_text b0) refl good

-- ---- a header's text is read

-- what stands behind the semantics isn't read as them
refuted_not : (kind : Kind) (refuted : ℕ) (rest : List ℕ) → behind (semantics_text kind) (text_of_lines (refuted_line refuted ∷ []) ++ rest) ≡ None
refuted_not Mealy refuted rest = refl
refuted_not Moore refuted rest = refl

end_not : (kind : Kind) → behind (semantics_text kind) end_text ≡ None
end_not Mealy = refl
end_not Moore = refl

-- behind the semantics either sizes are refuted, or the document ends
abbrev pub FollowsHeader : Option ℕ → List ℕ → Type 0
FollowsHeader None rest = rest ≡ end_text
FollowsHeader (Some refuted) rest = ⊤

part_not : (kind : Kind) (refuted : Option ℕ) (rest : List ℕ) → FollowsHeader refuted rest → behind (semantics_text kind) (refuted_part refuted ++ rest) ≡ None
part_not kind None rest is = ap (behind (semantics_text kind)) is ∙ end_not kind
part_not kind (Some refuted) rest is = refuted_not kind refuted rest

one_refuted : (header : Header) (n states refuted : ℕ) (rest : List ℕ) → states ≤ most_states → refuted ≤ states - 1
    → on_refuted header n (front (refuted_in states) (text_of_lines (refuted_line refuted ∷ []) ++ rest)) ≡ record { header = record header { refuted = Some refuted }; line = n + 1; rest = rest }
one_refuted header n states refuted rest small within =
    ap (λ (b : List ℕ). on_refuted header n (front (refuted_in states) b)) (sym (first_line (refuted_line refuted) [] rest))
    ∙ ap (on_refuted header n)
    (front_read (refuted_in states) (refuted_line refuted) rest refuted (text_lacks (codes "refuted ") refuted (words_lack (codes "refuted ") refl) (omega arith)) (refuted_read states refuted small within))

rest_read : (verdict : Verdict) (kind : Kind) (converted : Bool) (n : ℕ) (refuted : Option ℕ) (rest : List ℕ) → states_of verdict ≤ most_states → MayBeRefuted verdict refuted
    → refuted_at (h3 verdict kind converted) n verdict (refuted_part refuted ++ rest) ≡ record { header = header_with verdict kind converted refuted; line = n + refuted_lines refuted; rest = rest }
rest_read (Realizable states) kind converted n None rest small may = absurd may
rest_read (Realizable states) kind converted n (Some refuted) rest small may = one_refuted (h3 (Realizable states) kind converted) n states refuted rest small may
rest_read (Unrealizable states) kind converted n None rest small may = absurd may
rest_read (Unrealizable states) kind converted n (Some refuted) rest small may = one_refuted (h3 (Unrealizable states) kind converted) n states refuted rest small may
rest_read Unknown kind converted n None rest small may =
    let same : n ≡ n + 0 = omega arith in λ k. record { header = h3 Unknown kind converted; line = same k; rest = rest }
rest_read Unknown kind converted n (Some refuted) rest small may = absurd may

semantics_read : (verdict : Verdict) (kind : Kind) (converted : Bool) (n : ℕ) (refuted : Option ℕ) (rest : List ℕ) → states_of verdict ≤ most_states → MayBeRefuted verdict refuted
    → FollowsHeader refuted rest
    → on_semantics (h3 verdict kind false) n verdict (semantics_part converted kind ++ (refuted_part refuted ++ rest)) (behind (semantics_text kind) (semantics_part converted kind ++ (refuted_part refuted ++ rest)))
    ≡ record { header = header_with verdict kind converted refuted; line = n + semantics_lines converted + refuted_lines refuted; rest = rest }
semantics_read verdict kind false n refuted rest small may follows =
    ap (on_semantics (h3 verdict kind false) n verdict (refuted_part refuted ++ rest)) (part_not kind refuted rest follows)
    ∙ rest_read verdict kind false n refuted rest small may
    ∙ (let same : n ≡ n + 0 = omega arith in λ k. record { header = header_with verdict kind false refuted; line = same k + refuted_lines refuted; rest = rest })
semantics_read verdict kind true n refuted rest small may follows =
    ap (on_semantics (h3 verdict kind false) n verdict (semantics_text kind ++ (refuted_part refuted ++ rest))) (behind_words (semantics_text kind) (refuted_part refuted ++ rest))
    ∙ rest_read verdict kind true (n + 1) refuted rest small may

pub header_steps : (circuit : Bool) (first : ℕ) (b0 b1 b2 b3 : List ℕ) (v : Verdict) (k : Kind) (read : HeaderRead)
    → behind version_text b0 ≡ Some b1 → front verdict_in b1 ≡ Some (v, b2) → may_stand circuit v ≡ true → front kind_in b2 ≡ Some (k, b3)
    → on_semantics (h3 v k false) (first + 3) v b3 (behind (semantics_text k) b3) ≡ read
    → header_of circuit first b0 ≡ read
header_steps circuit first b0 b1 b2 b3 v k read e0 e1 stands e2 e3 =
    ap (on_version circuit first) e0
    ∙ ap (on_verdict no_header circuit first) e1
    ∙ ap (λ b. cond b (on_kind (record { verdict = Some v; kind = None; converted = false; refuted = None; bad = None }) first v (front kind_in b2))
    (record { header = record { verdict = Some v; kind = None; converted = false; refuted = None; bad = Some (first + 1) }; line = first + 1; rest = [] })) stands
    ∙ ap (on_kind (record { verdict = Some v; kind = None; converted = false; refuted = None; bad = None }) first v) e2
    ∙ e3

pub header_read : (circuit : Bool) (first : ℕ) (verdict : Verdict) (kind : Kind) (converted : Bool) (refuted : Option ℕ) (rest : List ℕ) → may_stand circuit verdict ≡ true → MayBeRefuted verdict refuted
    → FollowsHeader refuted rest
    → header_of circuit first (lines_before verdict kind converted ++ (refuted_part refuted ++ rest))
    ≡ record { header = header_with verdict kind converted refuted; line = line_behind first converted refuted; rest = rest }
header_read circuit first verdict kind converted refuted rest stands may follows =
    let small : states_of verdict ≤ most_states = few_states verdict (and_parts (has_its_place circuit verdict) (tells_states verdict) stands).1 in
    let b3 : List ℕ = semantics_part converted kind ++ (refuted_part refuted ++ rest) in
    let b2 : List ℕ = text_of_lines (kind_line kind ∷ []) ++ b3 in
    let b1 : List ℕ = text_of_lines (verdict_line verdict ∷ kind_line kind ∷ []) ++ b3 in
    let b4 : List ℕ = refuted_part refuted ++ rest in
    ap (header_of circuit first)
    (append_assoc version_text (text_of_lines (verdict_line verdict ∷ kind_line kind ∷ []) ++ semantics_part converted kind) (refuted_part refuted ++ rest)
    ∙ ap (λ (b : List ℕ). version_text ++ b) (append_assoc (text_of_lines (verdict_line verdict ∷ kind_line kind ∷ [])) (semantics_part converted kind) (refuted_part refuted ++ rest)))
    ∙ header_steps circuit first
    (version_text ++ (text_of_lines (verdict_line verdict ∷ kind_line kind ∷ []) ++ (semantics_part converted kind ++ (refuted_part refuted ++ rest))))
    (text_of_lines (verdict_line verdict ∷ kind_line kind ∷ []) ++ (semantics_part converted kind ++ (refuted_part refuted ++ rest)))
    (text_of_lines (kind_line kind ∷ []) ++ (semantics_part converted kind ++ (refuted_part refuted ++ rest)))
    (semantics_part converted kind ++ (refuted_part refuted ++ rest)) verdict kind
    (record { header = header_with verdict kind converted refuted; line = line_behind first converted refuted; rest = rest })
    (behind_words version_text (text_of_lines (verdict_line verdict ∷ kind_line kind ∷ []) ++ (semantics_part converted kind ++ (refuted_part refuted ++ rest))))
    (ap (front verdict_in) (sym (first_line (verdict_line verdict) (kind_line kind ∷ []) (semantics_part converted kind ++ (refuted_part refuted ++ rest))))
    ∙ front_read verdict_in (verdict_line verdict) (text_of_lines (kind_line kind ∷ []) ++ (semantics_part converted kind ++ (refuted_part refuted ++ rest))) verdict (verdict_lacks verdict small) (verdict_read verdict small))
    stands
    (ap (front kind_in) (sym (first_line (kind_line kind) [] (semantics_part converted kind ++ (refuted_part refuted ++ rest))))
    ∙ front_read kind_in (kind_line kind) (semantics_part converted kind ++ (refuted_part refuted ++ rest)) kind (kind_lacks kind) (kind_read kind))
    (semantics_read verdict kind converted (first + 3) refuted rest small may follows)
