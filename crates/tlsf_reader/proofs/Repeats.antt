-- What is given twice, and what is missing.
use Rattle.std.proofs.Common.{◌≡◌, ◌<◌, ◌≤◌, ◌⊎◌, ◌+◌, ◌-◌, ℕ, zero, suc, Bool, true, false, cond, List, [], ◌∷◌, ◌++◌, length, map, take, drop, slice_get, Option, None, Some, refl, sym, ◌∙◌, ap, subst, arith, inl, inr, slice_index_or, get_or, append_assoc, Result, Ok, Err, OnOk}
use Rattle.std.proofs.lemmas.List.{take_all, append-nil, map-append, take_more}
use Rattle.tlsf_tokens.specs.declared.symbol.Section.TheVariants.{Initially, Preset, Require, Assert, Assume, Guarantee}
use Rattle.tlsf_tokens.specs.declared.symbol.Symbol.{Symbol}
use Rattle.tlsf_tokens.specs.declared.symbol.Symbol.TheVariants as symbol
use Rattle.tlsf_syntax.specs.Lexemes.{Lexeme}
use Rattle.tlsf_syntax.specs.Symbols.{symbol_eq}
use Rattle.tlsf_syntax.proofs.Symbols.{same_symbol, is_symbol}
use Rattle.tlsf_reader.specs.declared.lexeme.Lexeme.{Lexeme as CodeLexeme}
use Rattle.tlsf_reader.specs.Seen.{seen}
use Rattle.tlsf_syntax.specs.declared.spec.Member.{Member as CodeMember}
use Rattle.tlsf_syntax.specs.declared.spec.Declaration.{Declaration as CodeDeclaration}
use Rattle.tlsf_syntax.specs.Tree.{Named, Member, Definition, Declaration, Block, Part, inputs, outputs, section}
use Rattle.tlsf_reader.specs.Parts.{definition_words, words_of_definitions, words_of_parts, definitions_of}
use Rattle.tlsf_syntax.specs.Seen.{word_seen, member_seen, declaration_seen}
use Rattle.tlsf_reader.specs.Assembly.{block_definitions}
use Rattle.tlsf_reader.proofs.Assembling.{last_block}
use Rattle.tlsf_reader.specs.Faults.{symbols_of, start_at, heads_part, Lacks, IsNeededField, title_is, description_is, semantics_is, target_is, IsNeededPart, inputs_are, outputs_are}
use Rattle.tlsf_reader.specs.Least.{IsLeast, least}
use Rattle.tlsf_reader.specs.Places.{OccursAt, RepeatedAt, Either, one, other, RepeatedAmong, PartTwiceAt, FieldMissingAt, PartMissingAt, occurs, first_brace}
use Rattle.tlsf_reader.proofs.LeastPlaces.{least_of_both, least_assoc, least_none, none_is_least, least_of_same, one_place}

-- occurrences

abbrev HereAt : Symbol → Lexeme → ℕ → Type 0
HereAt s l p = (l.symbol ≡ s) × (l.start ≡ p)

abbrev pub here : Symbol → Lexeme → Option ℕ
here s l = cond (symbol_eq l.symbol s) (Some l.start) None

here_least : (s : Symbol) (l : Lexeme) → IsLeast (HereAt s l) (here s l)
here_least s l = by (symbol_eq l.symbol s) refl
  where
    by : (b : Bool) → symbol_eq l.symbol s ≡ b → IsLeast (HereAt s l) (cond b (Some l.start) None)
    by true e = one_place (HereAt s l) l.start (same_symbol l.symbol s e, refl) (λ q h. h.1)
    by false e = none_is_least (HereAt s l) (λ q h. let yes : symbol_eq l.symbol s ≡ true = is_symbol l.symbol s h.0 in absurd cc)

occurs_split : (s : Symbol) (l : Lexeme) (ls : List Lexeme) (p : ℕ) → OccursAt s (l ∷ ls) p → HereAt s l p ⊎ OccursAt s ls p
occurs_split s l ls p o = by o.at o.here o.place_is
  where
    by : (k : ℕ) → slice_get (symbols_of (l ∷ ls)) k ≡ Some s → start_at (l ∷ ls) k ≡ p → HereAt s l p ⊎ OccursAt s ls p
    by zero e f = let same : l.symbol ≡ s = cc in inl (same, f)
    by (suc k) e f = inr (record { at = k; here = e; place_is = f })

occurs_now : (s : Symbol) (l : Lexeme) (ls : List Lexeme) (p : ℕ) → HereAt s l p → OccursAt s (l ∷ ls) p
occurs_now s l ls p h = record { at = zero; here = ap (λ x. Some x) h.0; place_is = h.1 }

occurs_later : (s : Symbol) (l : Lexeme) (ls : List Lexeme) (p : ℕ) → OccursAt s ls p → OccursAt s (l ∷ ls) p
occurs_later s l ls p o = record { at = suc o.at; here = o.here; place_is = o.place_is }

occurs_more : (s : Symbol) (l : Lexeme) (ls : List Lexeme) (later : Option ℕ) → IsLeast (OccursAt s ls) later → IsLeast (OccursAt s (l ∷ ls)) (least (here s l) later)
occurs_more s l ls later h = least_of_both (HereAt s l) (OccursAt s ls) (OccursAt s (l ∷ ls)) (here s l) later (here_least s l) h (occurs_now s l ls) (occurs_later s l ls) (occurs_split s l ls)

occurs_nowhere : (s : Symbol) → IsLeast (OccursAt s []) None
occurs_nowhere s = none_is_least (OccursAt s []) (λ q o. by o.at o.here)
  where
    by : (k : ℕ) → ◌≡◌ {A = Option Symbol} (slice_get [] k) (Some s) → ⊥
    by zero e = absurd cc
    by (suc k) e = absurd cc

-- what a loop keeps: the least so far, with the least of those that are left, is the least of all
abbrev pub Keeps : (ℕ → Type 0) → (ℕ → Type 0) → Option ℕ → Type 0
Keeps All Rest found = (later : Option ℕ) → IsLeast Rest later → IsLeast All (least found later)

pub occurs_passing : (s : Symbol) (all : List Lexeme) (l : Lexeme) (ls : List Lexeme) (found : Option ℕ) → Keeps (OccursAt s all) (OccursAt s (l ∷ ls)) found → Keeps (OccursAt s all) (OccursAt s ls) (least found (here s l))
occurs_passing s all l ls found k later h = subst (IsLeast (OccursAt s all)) (least_assoc found (here s l) later) (k (least (here s l) later) (occurs_more s l ls later h))

pub occurs_end : (s : Symbol) (all : List Lexeme) (found : Option ℕ) → Keeps (OccursAt s all) (OccursAt s []) found → IsLeast (OccursAt s all) found
occurs_end s all found k = subst (IsLeast (OccursAt s all)) (least_none found) (k None (occurs_nowhere s))

-- repetitions

-- what is repeated in all is what is repeated in those that are left
abbrev pub SameRepeated : Symbol → List Lexeme → List Lexeme → Type 0
SameRepeated s all rest = (found : Option ℕ) → IsLeast (RepeatedAt s rest) found → IsLeast (RepeatedAt s all) found

repeated_later : (s : Symbol) (l : Lexeme) (ls : List Lexeme) (p : ℕ) → RepeatedAt s ls p → RepeatedAt s (l ∷ ls) p
repeated_later s l ls p r = record { first = suc r.first; second = suc r.second; order = (let o : r.first < r.second = r.order in omega (arith, o)); before = r.before; here = r.here; place_is = r.place_is }

repeated_so : (s : Symbol) (l : Lexeme) (ls : List Lexeme) → symbol_eq l.symbol s ≡ false → (p : ℕ) → RepeatedAt s (l ∷ ls) p → RepeatedAt s ls p
repeated_so s l ls e p r = by r.first r.second r.order r.before r.here r.place_is
  where
    by : (j k : ℕ) → j < k → slice_get (symbols_of (l ∷ ls)) j ≡ Some s → slice_get (symbols_of (l ∷ ls)) k ≡ Some s → start_at (l ∷ ls) k ≡ p → RepeatedAt s ls p
    by zero k o f g h = let same : l.symbol ≡ s = cc in let yes : symbol_eq l.symbol s ≡ true = is_symbol l.symbol s same in absurd cc
    by (suc j) zero o f g h = absurd (omega (arith, o))
    by (suc j) (suc k) o f g h = record { first = j; second = k; order = omega (arith, o); before = f; here = g; place_is = h }

pub repeated_passing : (s : Symbol) (all : List Lexeme) (l : Lexeme) (ls : List Lexeme) → symbol_eq l.symbol s ≡ false → SameRepeated s all (l ∷ ls) → SameRepeated s all ls
repeated_passing s all l ls e k found h = k found (least_of_same (RepeatedAt s ls) (RepeatedAt s (l ∷ ls)) found (repeated_later s l ls) (repeated_so s l ls e) h)

repeated_as_occurs : (s : Symbol) (l : Lexeme) (ls : List Lexeme) (p : ℕ) → RepeatedAt s (l ∷ ls) p → OccursAt s ls p
repeated_as_occurs s l ls p r = by r.second r.order r.here r.place_is
  where
    by : (k : ℕ) → r.first < k → slice_get (symbols_of (l ∷ ls)) k ≡ Some s → start_at (l ∷ ls) k ≡ p → OccursAt s ls p
    by zero o g h = absurd (omega (arith, o))
    by (suc k) o g h = record { at = k; here = g; place_is = h }

pub repeated_found : (s : Symbol) (all : List Lexeme) (l : Lexeme) (ls : List Lexeme) (found : Option ℕ) → symbol_eq l.symbol s ≡ true → SameRepeated s all (l ∷ ls) → IsLeast (OccursAt s ls) found → IsLeast (RepeatedAt s all) found
repeated_found s all l ls found e k h =
    k found (least_of_same (OccursAt s ls) (RepeatedAt s (l ∷ ls)) found (λ p o. record { first = zero; second = suc o.at; order = omega arith; before = ap (λ x. Some x) (same_symbol l.symbol s e); here = o.here; place_is = o.place_is })
    (repeated_as_occurs s l ls) h)

pub repeated_end : (s : Symbol) (all : List Lexeme) → SameRepeated s all [] → IsLeast (RepeatedAt s all) None
repeated_end s all k = k None (none_is_least (RepeatedAt s []) (λ q r. by r.second r.here))
  where
    by : (k : ℕ) → ◌≡◌ {A = Option Symbol} (slice_get [] k) (Some s) → ⊥
    by zero e = absurd cc
    by (suc k) e = absurd cc

-- some symbols

pub among_passing : (all : ℕ → Type 0) (ls : List Lexeme) (s : Symbol) (ss : List Symbol) (found next : Option ℕ) → IsLeast (RepeatedAt s ls) next → Keeps all (RepeatedAmong (s ∷ ss) ls) found → Keeps all (RepeatedAmong ss ls) (least found next)
among_passing all ls s ss found next n k later h =
    subst (IsLeast all) (least_assoc found next later) (k (least next later)
    (least_of_both (RepeatedAt s ls) (RepeatedAmong ss ls) (RepeatedAmong (s ∷ ss) ls) next later n h (λ p x. one x) (λ p x. other x) split))
  where
    split : (p : ℕ) → Either (RepeatedAt s ls) (RepeatedAmong ss ls) p → RepeatedAt s ls p ⊎ RepeatedAmong ss ls p
    split p (one x) = inl x
    split p (other x) = inr x

pub among_end : (all : ℕ → Type 0) (ls : List Lexeme) (found : Option ℕ) → Keeps all (RepeatedAmong [] ls) found → IsLeast all found
among_end all ls found k = subst (IsLeast all) (least_none found) (k None (none_is_least (RepeatedAmong [] ls) (λ q n. n)))

abbrev pub heads : List Symbol
heads =
    symbol.Title ∷ symbol.Description ∷ symbol.Semantics ∷ symbol.Target ∷ symbol.Tags ∷ symbol.Parameters ∷ symbol.Definitions ∷ symbol.Inputs ∷ symbol.Outputs ∷ symbol.Section Initially ∷ symbol.Section Preset ∷ symbol.Section Require ∷ symbol.Section Assert ∷ symbol.Section Assume ∷ symbol.Section Guarantee ∷ []

abbrev AllHead : List Symbol → Type 0
AllHead [] = Unit {0}
AllHead (s ∷ ss) = (heads_part s ≡ true) × AllHead ss

twice_of : (ss : List Symbol) (ls : List Lexeme) (p : ℕ) → AllHead ss → RepeatedAmong ss ls p → PartTwiceAt ls p
twice_of [] ls p a n = absurd n
twice_of (s ∷ ss) ls p a (one r) = record { head = s; heads = a.0; repeated = r }
twice_of (s ∷ ss) ls p a (other r) = twice_of ss ls p a.1 r

twice_among : (s : Symbol) (ls : List Lexeme) (p : ℕ) → heads_part s ≡ true → RepeatedAt s ls p → RepeatedAmong heads ls p
twice_among symbol.Title ls p h r = one r
twice_among symbol.Description ls p h r = other (one r)
twice_among symbol.Semantics ls p h r = other (other (one r))
twice_among symbol.Target ls p h r = other (other (other (one r)))
twice_among symbol.Tags ls p h r = other (other (other (other (one r))))
twice_among symbol.Parameters ls p h r = other (other (other (other (other (one r)))))
twice_among symbol.Definitions ls p h r = other (other (other (other (other (other (one r))))))
twice_among symbol.Inputs ls p h r = other (other (other (other (other (other (other (one r)))))))
twice_among symbol.Outputs ls p h r = other (other (other (other (other (other (other (other (one r))))))))
twice_among (symbol.Section Initially) ls p h r = other (other (other (other (other (other (other (other (other (one r)))))))))
twice_among (symbol.Section Preset) ls p h r = other (other (other (other (other (other (other (other (other (other (one r))))))))))
twice_among (symbol.Section Require) ls p h r = other (other (other (other (other (other (other (other (other (other (other (one r)))))))))))
twice_among (symbol.Section Assert) ls p h r = other (other (other (other (other (other (other (other (other (other (other (other (one r))))))))))))
twice_among (symbol.Section Assume) ls p h r = other (other (other (other (other (other (other (other (other (other (other (other (other (one r)))))))))))))
twice_among (symbol.Section Guarantee) ls p h r = other (other (other (other (other (other (other (other (other (other (other (other (other (other (one r))))))))))))))
twice_among _ ls p h r = absurd cc

pub heads_twice : (ls : List Lexeme) (found : Option ℕ) → IsLeast (RepeatedAmong heads ls) found → IsLeast (PartTwiceAt ls) found
heads_twice ls found h =
    least_of_same (RepeatedAmong heads ls) (PartTwiceAt ls) found (λ p r. twice_of heads ls p (refl, (refl, (refl, (refl, (refl, (refl, (refl, (refl, (refl, (refl, (refl, (refl, (refl, (refl, (refl, tt))))))))))))))) r)
    (λ p t. twice_among t.head ls p t.heads t.repeated) h

-- what is there, and what is missing

pub occurs_here : (s : Symbol) (l : Lexeme) (ls : List Lexeme) → symbol_eq l.symbol s ≡ true → occurs s (l ∷ ls) ≡ true
occurs_here s l ls e = ap (λ b. cond b true (occurs s ls)) e

pub occurs_not_here : (s : Symbol) (l : Lexeme) (ls : List Lexeme) → symbol_eq l.symbol s ≡ false → occurs s (l ∷ ls) ≡ occurs s ls
occurs_not_here s l ls e = ap (λ b. cond b true (occurs s ls)) e

not_lacking : (s : Symbol) (ls : List Lexeme) → occurs s ls ≡ true → ¬ Lacks s ls
not_lacking s [] e n = absurd cc
not_lacking s (l ∷ ls) e n = by (λ f m. not_lacking s ls f m) (symbol_eq l.symbol s) refl
  where
    by : (occurs s ls ≡ true → ¬ Lacks s ls) → (b : Bool) → symbol_eq l.symbol s ≡ b → ⊥
    by h true i = n zero (ap (λ x. Some x) (same_symbol l.symbol s i))
    by h false i = h (sym (occurs_not_here s l ls i) ∙ e) (λ k g. n (suc k) g)

lacking : (s : Symbol) (ls : List Lexeme) → occurs s ls ≡ false → Lacks s ls
lacking s [] e zero h = absurd cc
lacking s [] e (suc k) h = absurd cc
lacking s (l ∷ ls) e k h = by (λ f. lacking s ls f) (symbol_eq l.symbol s) refl k h
  where
    by : (occurs s ls ≡ false → Lacks s ls) → (b : Bool) → symbol_eq l.symbol s ≡ b → (k : ℕ) → slice_get (symbols_of (l ∷ ls)) k ≡ Some s → ⊥
    by r true i k h = let yes : occurs s (l ∷ ls) ≡ true = occurs_here s l ls i in absurd cc
    by r false i zero h = let same : l.symbol ≡ s = cc in let yes : symbol_eq l.symbol s ≡ true = is_symbol l.symbol s same in absurd cc
    by r false i (suc k) h = r (sym (occurs_not_here s l ls i) ∙ e) k h

-- the first closing brace of a list
record BraceAt (ls : List Lexeme) (p : ℕ) : Type 0 where
  brace : ℕ
  closes : slice_get (symbols_of ls) brace ≡ Some symbol.CloseBrace
  first : (j : ℕ) → j < brace → slice_get (symbols_of ls) j ≡ Some symbol.CloseBrace → ⊥
  place_is : start_at ls brace ≡ p

brace_least : (ls : List Lexeme) → IsLeast (BraceAt ls) (first_brace ls)
brace_least [] = none_is_least (BraceAt []) (λ q h. by h.brace h.closes)
  where
    by : (k : ℕ) → ◌≡◌ {A = Option Symbol} (slice_get [] k) (Some symbol.CloseBrace) → ⊥
    by zero e = absurd cc
    by (suc k) e = absurd cc
brace_least (l ∷ ls) = by (symbol_eq l.symbol symbol.CloseBrace) refl (brace_least ls)
  where
    same_place : l.symbol ≡ symbol.CloseBrace → (q : ℕ) → BraceAt (l ∷ ls) q → l.start ≡ q
    same_place i q h = at h.brace h.first h.place_is
      where
        at : (k : ℕ) → ((j : ℕ) → j < k → slice_get (symbols_of (l ∷ ls)) j ≡ Some symbol.CloseBrace → ⊥) → start_at (l ∷ ls) k ≡ q → l.start ≡ q
        at zero f e = e
        at (suc k) f e = absurd (f zero (omega arith) (ap (λ x. Some x) i))

    later : symbol_eq l.symbol symbol.CloseBrace ≡ false → (q : ℕ) → BraceAt (l ∷ ls) q → BraceAt ls q
    later i q h = at h.brace h.closes h.first h.place_is
      where
        at : (k : ℕ) → slice_get (symbols_of (l ∷ ls)) k ≡ Some symbol.CloseBrace → ((j : ℕ) → j < k → slice_get (symbols_of (l ∷ ls)) j ≡ Some symbol.CloseBrace → ⊥) → start_at (l ∷ ls) k ≡ q → BraceAt ls q
        at zero c f e = let same : l.symbol ≡ symbol.CloseBrace = cc in let yes : symbol_eq l.symbol symbol.CloseBrace ≡ true = is_symbol l.symbol symbol.CloseBrace same in absurd cc
        at (suc k) c f e = record { brace = k; closes = c; first = λ j o g. f (suc j) (omega (arith, o)) g; place_is = e }

    sooner : symbol_eq l.symbol symbol.CloseBrace ≡ false → (q : ℕ) → BraceAt ls q → BraceAt (l ∷ ls) q
    sooner i q h = record { brace = suc h.brace; closes = h.closes; first = before; place_is = h.place_is }
      where
        before : (j : ℕ) → j < suc h.brace → slice_get (symbols_of (l ∷ ls)) j ≡ Some symbol.CloseBrace → ⊥
        before zero o e = let same : l.symbol ≡ symbol.CloseBrace = cc in let yes : symbol_eq l.symbol symbol.CloseBrace ≡ true = is_symbol l.symbol symbol.CloseBrace same in absurd cc
        before (suc j) o e = h.first j (omega (arith, o)) e

    by : (b : Bool) → symbol_eq l.symbol symbol.CloseBrace ≡ b → IsLeast (BraceAt ls) (first_brace ls) → IsLeast (BraceAt (l ∷ ls)) (cond b (Some l.start) (first_brace ls))
    by true i h =
        let brace : l.symbol ≡ symbol.CloseBrace = same_symbol l.symbol symbol.CloseBrace i in
        one_place (BraceAt (l ∷ ls)) l.start (record { brace = zero; closes = ap (λ x. Some x) brace; first = λ j o e. absurd (omega (arith, o)); place_is = refl }) (same_place brace)
    by false i h = least_of_same (BraceAt ls) (BraceAt (l ∷ ls)) (first_brace ls) (sooner i) (later i) h

-- a field that INFO needs isn't there
pub field_lacking : (ls : List Lexeme) (s : Symbol) → IsNeededField s → occurs s ls ≡ false → IsLeast (FieldMissingAt ls) (first_brace ls)
field_lacking ls s n e =
    least_of_same (BraceAt ls) (FieldMissingAt ls) (first_brace ls) (λ p h. record { field = s; needed = n; absent = lacking s ls e; brace = h.brace; closes = h.closes; first = h.first; place_is = h.place_is })
    (λ p h. record { brace = h.brace; closes = h.closes; first = h.first; place_is = h.place_is }) (brace_least ls)

pub fields_there : (ls : List Lexeme) → occurs symbol.Title ls ≡ true → occurs symbol.Description ls ≡ true → occurs symbol.Semantics ls ≡ true → occurs symbol.Target ls ≡ true → IsLeast (FieldMissingAt ls) None
fields_there ls a b c d = none_is_least (FieldMissingAt ls) (λ q h. by h.field h.needed h.absent)
  where
    by : (s : Symbol) → IsNeededField s → Lacks s ls → ⊥
    by s title_is n = not_lacking symbol.Title ls a n
    by s description_is n = not_lacking symbol.Description ls b n
    by s semantics_is n = not_lacking symbol.Semantics ls c n
    by s target_is n = not_lacking symbol.Target ls d n

pub parts_there : (ls : List Lexeme) → occurs symbol.Inputs ls ≡ true → occurs symbol.Outputs ls ≡ true → IsLeast (PartMissingAt ls) None
parts_there ls a b = none_is_least (PartMissingAt ls) (λ q h. by h.part h.needed h.absent)
  where
    by : (s : Symbol) → IsNeededPart s → Lacks s ls → ⊥
    by s inputs_are n = not_lacking symbol.Inputs ls a n
    by s outputs_are n = not_lacking symbol.Outputs ls b n

start_of_last : (ls : List Lexeme) (l : Lexeme) (k : ℕ) → k ≡ length ls → start_at (ls ++ l ∷ []) k ≡ l.start
start_of_last [] l k e = ap (start_at (l ∷ [])) e
start_of_last (x ∷ ls) l zero e = absurd (omega (arith, e))
start_of_last (x ∷ ls) l (suc k) e = start_of_last ls l k (omega (arith, e))

length_last : (ls : List Lexeme) (l : Lexeme) → length (ls ++ l ∷ []) ≡ length ls + 1
length_last [] l = refl
length_last (x ∷ ls) l = let e : length (ls ++ l ∷ []) ≡ length ls + 1 = length_last ls l in omega (arith, e)

pub part_lacking : (ls : List Lexeme) (l : Lexeme) (s : Symbol) → IsNeededPart s → occurs s (ls ++ l ∷ []) ≡ false → IsLeast (PartMissingAt (ls ++ l ∷ [])) (Some l.start)
part_lacking ls l s n e =
    let long : length (ls ++ l ∷ []) ≡ length ls + 1 = length_last ls l in
    one_place (PartMissingAt (ls ++ l ∷ [])) l.start
    (record { part = s; needed = n; absent = lacking s (ls ++ l ∷ []) e; brace = length ls; last = omega (arith, long); place_is = start_of_last ls l (length ls) refl })
    (λ q h. let last : h.brace + 1 ≡ length (ls ++ l ∷ []) = h.last in let same : h.brace ≡ length ls = omega (arith, long, last) in sym (start_of_last ls l h.brace same) ∙ h.place_is)

-- over the code's lexemes, of which the first is passed

rest_of : {X : Type 0} (x : X) (xs : List X) → take (length (x ∷ xs) - 1) xs ≡ xs
rest_of x xs = let less : length (x ∷ xs) - 1 ≡ length xs = omega arith in ap (λ n. take n xs) less ∙ take_all (length xs) xs (omega arith)

pub occurs_then : (s : Symbol) (all : List Lexeme) (xs : List CodeLexeme) (d : CodeLexeme) (found next : Option ℕ) → 1 ≤ length xs → symbol_eq (slice_index_or xs 0 d).symbol s ≡ true → next ≡ least found (Some (slice_index_or xs 0 d).start)
    → Keeps (OccursAt s all) (OccursAt s (map seen xs)) found → Keeps (OccursAt s all) (OccursAt s (map seen (take (length xs - 1) (drop 1 xs)))) next
occurs_then s all [] d found next h e f k = absurd (omega (arith, h))
occurs_then s all (x ∷ xs) d found next h e f k =
    let at : here s (seen x) ≡ Some x.start = ap (λ b. cond b (Some x.start) None) e in
    subst (λ ys. Keeps (OccursAt s all) (OccursAt s (map seen ys)) next) (sym (rest_of x xs)) (subst (Keeps (OccursAt s all) (OccursAt s (map seen xs))) (ap (least found) at ∙ sym f) (occurs_passing s all (seen x) (map seen xs) found k))

pub occurs_else : (s : Symbol) (all : List Lexeme) (xs : List CodeLexeme) (d : CodeLexeme) (found : Option ℕ) → 1 ≤ length xs → symbol_eq (slice_index_or xs 0 d).symbol s ≡ false
    → Keeps (OccursAt s all) (OccursAt s (map seen xs)) found → Keeps (OccursAt s all) (OccursAt s (map seen (take (length xs - 1) (drop 1 xs)))) found
occurs_else s all [] d found h e k = absurd (omega (arith, h))
occurs_else s all (x ∷ xs) d found h e k =
    let at : here s (seen x) ≡ None = ap (λ b. cond b (Some x.start) None) e in
    subst (λ ys. Keeps (OccursAt s all) (OccursAt s (map seen ys)) found) (sym (rest_of x xs)) (subst (Keeps (OccursAt s all) (OccursAt s (map seen xs))) (ap (least found) at ∙ least_none found) (occurs_passing s all (seen x) (map seen xs) found k))

pub occurs_done : (s : Symbol) (all : List Lexeme) (xs : List CodeLexeme) (found : Option ℕ) → length xs < 1 → Keeps (OccursAt s all) (OccursAt s (map seen xs)) found → IsLeast (OccursAt s all) found
occurs_done s all [] found h k = occurs_end s all found k
occurs_done s all (x ∷ xs) found h k = absurd (omega (arith, h))

pub repeated_then : (s : Symbol) (all : List Lexeme) (xs : List CodeLexeme) (d : CodeLexeme) (found : Option ℕ) → 1 ≤ length xs → symbol_eq (slice_index_or xs 0 d).symbol s ≡ true → SameRepeated s all (map seen xs)
    → IsLeast (OccursAt s (map seen (take (length xs - 1) (drop 1 xs)))) found → IsLeast (RepeatedAt s all) found
repeated_then s all [] d found h e k o = absurd (omega (arith, h))
repeated_then s all (x ∷ xs) d found h e k o = repeated_found s all (seen x) (map seen xs) found e k (subst (λ ys. IsLeast (OccursAt s (map seen ys)) found) (rest_of x xs) o)

pub repeated_else : (s : Symbol) (all : List Lexeme) (xs : List CodeLexeme) (d : CodeLexeme) → 1 ≤ length xs → symbol_eq (slice_index_or xs 0 d).symbol s ≡ false → SameRepeated s all (map seen xs)
    → SameRepeated s all (map seen (take (length xs - 1) (drop 1 xs)))
repeated_else s all [] d h e k = absurd (omega (arith, h))
repeated_else s all (x ∷ xs) d h e k = subst (λ ys. SameRepeated s all (map seen ys)) (sym (rest_of x xs)) (repeated_passing s all (seen x) (map seen xs) e k)

pub repeated_done : (s : Symbol) (all : List Lexeme) (xs : List CodeLexeme) → length xs < 1 → SameRepeated s all (map seen xs) → IsLeast (RepeatedAt s all) None
repeated_done s all [] h k = repeated_end s all k
repeated_done s all (x ∷ xs) h k = absurd (omega (arith, h))

pub among_then : (all : ℕ → Type 0) (ls : List Lexeme) (ss : List Symbol) (d : Symbol) (found next last : Option ℕ) → 1 ≤ length ss → IsLeast (RepeatedAt (slice_index_or ss 0 d) ls) next → last ≡ least found next
    → Keeps all (RepeatedAmong ss ls) found → Keeps all (RepeatedAmong (take (length ss - 1) (drop 1 ss)) ls) last
among_then all ls [] d found next last h n f k = absurd (omega (arith, h))
among_then all ls (s ∷ ss) d found next last h n f k =
    subst (λ ys. Keeps all (RepeatedAmong ys ls) last) (sym (rest_of s ss)) (subst (Keeps all (RepeatedAmong ss ls)) (sym f) (among_passing all ls s ss found next n k))

pub among_done : (all : ℕ → Type 0) (ls : List Lexeme) (ss : List Symbol) (found : Option ℕ) → length ss < 1 → Keeps all (RepeatedAmong ss ls) found → IsLeast all found
among_done all ls [] found h k = among_end all ls found k
among_done all ls (s ∷ ss) found h k = absurd (omega (arith, h))

-- the last of the code's lexemes
pub last_lacking : (xs : List CodeLexeme) (d : CodeLexeme) (s : Symbol) → IsNeededPart s → 1 ≤ length xs → occurs s (map seen xs) ≡ false → IsLeast (PartMissingAt (map seen xs)) (Some (slice_index_or xs (length xs - 1) d).start)
last_lacking xs d s n h e = by xs [] refl h
  where
    front_of : (x : CodeLexeme) (ys : List CodeLexeme) → (front : List CodeLexeme) × (last : CodeLexeme) × (x ∷ ys ≡ front ++ last ∷ [])
    front_of x [] = ([], x, refl)
    front_of x (y ∷ ys) = let r : (front : List CodeLexeme) × (last : CodeLexeme) × (y ∷ ys ≡ front ++ last ∷ []) = front_of y ys in (x ∷ r.0, r.1, ap (λ z. x ∷ z) r.2)

    at_last : (front : List CodeLexeme) (last : CodeLexeme) (k : ℕ) → k ≡ length front → slice_index_or (front ++ last ∷ []) k d ≡ last
    at_last [] last k f = ap (λ j. slice_index_or (last ∷ []) j d) f
    at_last (x ∷ front) last zero f = absurd (omega (arith, f))
    at_last (x ∷ front) last (suc k) f = at_last front last k (omega (arith, f))

    long : (front : List CodeLexeme) (last : CodeLexeme) → length (front ++ last ∷ []) ≡ length front + 1
    long [] last = refl
    long (x ∷ front) last = let f : length (front ++ last ∷ []) ≡ length front + 1 = long front last in omega (arith, f)

    whole : (front : List CodeLexeme) (last : CodeLexeme) → xs ≡ front ++ last ∷ [] → IsLeast (PartMissingAt (map seen xs)) (Some (slice_index_or xs (length xs - 1) d).start)
    whole front last f =
        let all : map seen xs ≡ map seen front ++ seen last ∷ [] = ap (map seen) f ∙ map-append seen front (last ∷ []) in
        let size : length xs ≡ length front + 1 = ap length f ∙ long front last in
        let place : slice_index_or xs (length xs - 1) d ≡ last = ap (λ ys. slice_index_or ys (length xs - 1) d) f ∙ at_last front last (length xs - 1) (omega (arith, size)) in
        subst (λ ys. IsLeast (PartMissingAt ys) (Some (slice_index_or xs (length xs - 1) d).start)) (sym all)
        (subst (λ (y : CodeLexeme). IsLeast (PartMissingAt (map seen front ++ seen last ∷ [])) (Some y.start)) (sym place) (part_lacking (map seen front) (seen last) s n (ap (occurs s) (sym all) ∙ e)))

    by : (ys zs : List CodeLexeme) → xs ≡ ys → 1 ≤ length ys → IsLeast (PartMissingAt (map seen xs)) (Some (slice_index_or xs (length xs - 1) d).start)
    by [] zs f g = absurd (omega (arith, g))
    by (x ∷ ys) zs f g = let r : (front : List CodeLexeme) × (last : CodeLexeme) × (x ∷ ys ≡ front ++ last ∷ []) = front_of x ys in whole r.0 r.1 (f ∙ r.2)

get_at : {X : Type 0} (xs : List X) (k : ℕ) (d : X) → k < length xs → slice_index_or xs k d ≡ get_or xs k d
get_at [] k d h = absurd (omega (arith, h))
get_at (x ∷ xs) zero d h = refl
get_at (x ∷ xs) (suc k) d h = get_at xs k d (omega (arith, h))

-- one more word behind those that were listed
pub one_more_word : {W X Y : Type 0} (see : W → Y) (f : X → Y) (old words new : List W) (w : W) (xs : List X) (k : ℕ) (x d : X) → new ≡ words ++ w ∷ [] → see w ≡ f x → x ≡ slice_index_or xs k d → k < length xs
    → map see words ≡ map see old ++ map f (take k xs) → map see new ≡ map see old ++ map f (take (k + 1) xs)
one_more_word see f old words new w xs k x d e g i h j =
    ap (map see) e ∙ map-append see words (w ∷ []) ∙ ap (λ ys. ys ++ see w ∷ []) j ∙ append_assoc (map see old) (map f (take k xs)) (see w ∷ [])
    ∙ ap (λ ys. map see old ++ ys) (ap (λ y. map f (take k xs) ++ y ∷ []) (g ∙ ap f (i ∙ get_at xs k d h)) ∙ sym (map-append f (take k xs) (get_or xs k d ∷ [])) ∙ ap (map f) (sym (take_more xs k d h)))

-- the words of an enumeration, and of its members
pub enumerated : {W M : Type 0} (see : W → Named) (f : M → Named) (old middle new : List W) (w : W) (ms : List M) → middle ≡ old ++ w ∷ [] → map see new ≡ map see middle ++ map f ms → map see new ≡ map see old ++ (see w ∷ map f ms)
enumerated see f old middle new w ms e g =
    g ∙ ap (λ ys. ys ++ map f ms) (ap (map see) e ∙ map-append see old (w ∷ [])) ∙ append_assoc (map see old) (see w ∷ []) (map f ms)

pub member_words : (ms : List CodeMember) → map (λ (m : CodeMember). word_seen m.word) ms ≡ map (λ (m : Member). m.word) (map member_seen ms)
member_words [] = refl
member_words (m ∷ ms) = ap (λ ys. word_seen m.word ∷ ys) (member_words ms)

pub declaration_words : (ds : List CodeDeclaration) → map (λ (d : CodeDeclaration). word_seen d.word) ds ≡ map (λ (d : Declaration). d.word) (map declaration_seen ds)
declaration_words [] = refl
declaration_words (d ∷ ds) = ap (λ ys. word_seen d.word ∷ ys) (declaration_words ds)

last_definition : (ds : List Definition) (d : Definition) → words_of_definitions (ds ++ d ∷ []) ≡ words_of_definitions ds ++ definition_words d
last_definition [] d = append-nil (definition_words d)
last_definition (x ∷ ds) d = ap (λ ys. definition_words x ++ ys) (last_definition ds d) ∙ sym (append_assoc (definition_words x) (words_of_definitions ds) (definition_words d))

-- one more element in a list that is seen through a view
pub next_taken : {X Y : Type 0} (view : X → Y) (xs : List X) (k : ℕ) (x d : X) → x ≡ slice_index_or xs k d → k < length xs → map view (take (k + 1) xs) ≡ map view (take k xs) ++ view x ∷ []
next_taken view xs k x d i h = ap (map view) (take_more xs k d h) ∙ map-append view (take k xs) (get_or xs k d ∷ []) ∙ ap (λ y. map view (take k xs) ++ view y ∷ []) (sym (i ∙ get_at xs k d h))

pub more_definition_words : {X : Type 0} (view : X → Definition) (old words new : List Named) (xs : List X) (k : ℕ) (x d : X) → new ≡ words ++ definition_words (view x) → x ≡ slice_index_or xs k d → k < length xs
    → words ≡ old ++ words_of_definitions (map view (take k xs)) → new ≡ old ++ words_of_definitions (map view (take (k + 1) xs))
more_definition_words view old words new xs k x d e i h j =
    e ∙ ap (λ ys. ys ++ definition_words (view x)) j ∙ append_assoc old (words_of_definitions (map view (take k xs))) (definition_words (view x))
    ∙ ap (λ ys. old ++ ys) (sym (last_definition (map view (take k xs)) (view x)) ∙ ap words_of_definitions (sym (next_taken view xs k x d i h)))

pub words_append : (ds es : List Definition) → words_of_definitions (ds ++ es) ≡ words_of_definitions ds ++ words_of_definitions es
words_append [] es = refl
words_append (d ∷ ds) es = ap (λ ys. definition_words d ++ ys) (words_append ds es) ∙ sym (append_assoc (definition_words d) (words_of_definitions ds) (words_of_definitions es))

last_of_blocks : (bs : List Block) (b : Block) → words_of_definitions (definitions_of (bs ++ b ∷ [])) ≡ words_of_definitions (definitions_of bs) ++ words_of_definitions (block_definitions b)
last_of_blocks bs b = ap words_of_definitions (last_block bs b) ∙ words_append (definitions_of bs) (block_definitions b)

pub more_block_words : {X : Type 0} (view : X → Block) (words new : List Named) (xs : List X) (k : ℕ) (x d : X) → new ≡ words ++ words_of_definitions (block_definitions (view x)) → x ≡ slice_index_or xs k d → k < length xs
    → words ≡ words_of_definitions (definitions_of (map view (take k xs))) → new ≡ words_of_definitions (definitions_of (map view (take (k + 1) xs)))
more_block_words view words new xs k x d e i h j =
    e ∙ ap (λ ys. ys ++ words_of_definitions (block_definitions (view x))) j ∙ sym (last_of_blocks (map view (take k xs)) (view x)) ∙ ap (λ bs. words_of_definitions (definitions_of bs)) (sym (next_taken view xs k x d i h))

last_of_parts : (ps : List Part) (p : Part) → words_of_parts (ps ++ p ∷ []) ≡ words_of_parts ps ++ words_of_parts (p ∷ [])
last_of_parts [] p = refl
last_of_parts (inputs ds ∷ ps) p = ap (λ ys. map (λ (d : Declaration). d.word) ds ++ ys) (last_of_parts ps p) ∙ sym (append_assoc (map (λ (d : Declaration). d.word) ds) (words_of_parts ps) (words_of_parts (p ∷ [])))
last_of_parts (outputs ds ∷ ps) p = ap (λ ys. map (λ (d : Declaration). d.word) ds ++ ys) (last_of_parts ps p) ∙ sym (append_assoc (map (λ (d : Declaration). d.word) ds) (words_of_parts ps) (words_of_parts (p ∷ [])))
last_of_parts (section s ts ∷ ps) p = last_of_parts ps p

pub more_part_words : {X : Type 0} (view : X → Part) (old words new : List Named) (xs : List X) (k : ℕ) (x d : X) → new ≡ words ++ words_of_parts (view x ∷ []) → x ≡ slice_index_or xs k d → k < length xs
    → words ≡ old ++ words_of_parts (map view (take k xs)) → new ≡ old ++ words_of_parts (map view (take (k + 1) xs))
more_part_words view old words new xs k x d e i h j =
    e ∙ ap (λ ys. ys ++ words_of_parts (view x ∷ [])) j ∙ append_assoc old (words_of_parts (map view (take k xs))) (words_of_parts (view x ∷ []))
    ∙ ap (λ ys. old ++ ys) (sym (last_of_parts (map view (take k xs)) (view x)) ∙ ap words_of_parts (sym (next_taken view xs k x d i h)))

-- the words of a part of declarations
pub declared_part : {W E : Type 0} (see : W → Named) (old new : List W) (items ds : List CodeDeclaration) (p : Part) (r : Result (Unit {0}) E) → OnOk r (map see new ≡ map see old ++ map (λ (d : CodeDeclaration). word_seen d.word) items) → items ≡ ds
    → (p ≡ inputs (map declaration_seen ds)) ⊎ (p ≡ outputs (map declaration_seen ds)) → OnOk r (map see new ≡ map see old ++ words_of_parts (p ∷ []))
declared_part see old new items ds p (Err e) h same is = tt
declared_part see old new items ds p (Ok u) h same is = h ∙ ap (λ ys. map see old ++ ys) (ap (map (λ (d : CodeDeclaration). word_seen d.word)) same ∙ declaration_words ds ∙ sym (append-nil (map (λ (d : Declaration). d.word) (map declaration_seen ds))) ∙ sym whole)
  where
    whole : words_of_parts (p ∷ []) ≡ map (λ (d : Declaration). d.word) (map declaration_seen ds) ++ []
    whole = elim is [ inl e ↦ ap (λ q. words_of_parts (q ∷ [])) e | inr e ↦ ap (λ q. words_of_parts (q ∷ [])) e ]
