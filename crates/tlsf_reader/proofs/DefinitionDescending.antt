-- What the descent for GLOBAL reads, step by step.
use Rattle.std.specs.Prelude.{if◌then◌else◌}
use Rattle.std.proofs.Common.{◌≡◌, ℕ, true, false, cond, List, [], ◌∷◌, Option, Some, None, Result, Ok, Err, IsErrAnd, refl, sym, ap, ◌∙◌, subst}
use Rattle.std.proofs.lemmas.Result.{err_from_is_err_and}
use Rattle.tlsf_tokens.specs.declared.symbol.Symbol.TheVariants as symbol
use Rattle.tlsf_syntax.specs.Tree as plain
use Rattle.tlsf_syntax.specs.Lexemes.{Lexeme, word_of}
use Rattle.tlsf_syntax.specs.Reading.{Answer, taken, go_on, begins, expect, if_next}
use Rattle.tlsf_syntax.specs.TextReading.{expression_read, guard_read, alternative_of, alternatives_read, names_read, function_read, definition_read, definitions_read, parameters_read, braced, blocks_read}
use Rattle.tlsf_reader.specs.declared.rest.Refusal.{Refusal}
use Rattle.tlsf_reader.specs.declared.written.Block.{Block}
use Rattle.tlsf_reader.specs.TextView.{block_view}
use Rattle.tlsf_reader.specs.Descent.{Eventually, IsRead, Passes, Lacks, Builds}
use Rattle.tlsf_reader.specs.TextDescent.{enumeration_read, parameter_read, in_front, IsBlockRead}
use Rattle.tlsf_reader.proofs.Descending.{at_once, same_answers, goes, stops, read_same, next_passes, next_other, expect_passes}
use Rattle.tlsf_reader.proofs.TextDescending.{deeper, go_expect, go_go, expect_same, go_same, Until, read_deeper}

-- guards and alternatives

abbrev pub guard_tree : plain.Tree → List Lexeme → Answer (Option plain.Tree)
guard_tree t rest = taken (Some t) rest

abbrev pub no_guard : Lexeme → List Lexeme → Answer (Option plain.Tree)
no_guard _ rest = taken None rest

abbrev pub guard_from : ℕ → List Lexeme → Answer (Option plain.Tree)
guard_from d ls = go_on (expression_read false d ls) guard_tree

abbrev more_alternatives : ℕ → plain.Alternative → Option plain.Tree → List Lexeme → Answer (List plain.Alternative)
more_alternatives d a h colon_at = go_on (alternatives_read d h colon_at) (λ others after. taken (a ∷ others) after)

abbrev after_value : ℕ → plain.Alternative → List Lexeme → Answer (List plain.Alternative)
after_value d a rest = if begins symbol.Semicolon rest then taken (a ∷ []) rest else go_on (guard_read d rest) (more_alternatives d a)

abbrev value_of_guard : ℕ → Option plain.Tree → plain.Tree → List Lexeme → Answer (List plain.Alternative)
value_of_guard d g u rest = after_value d (alternative_of g u) rest

abbrev alternative_value : ℕ → Option plain.Tree → Lexeme → List Lexeme → Answer (List plain.Alternative)
alternative_value d g _ inner = go_on (expression_read true d inner) (value_of_guard d g)

pub read_alternatives : {Y : Type 0} {view : Y → List plain.Alternative} {after : List Lexeme} {r : Result Y Refusal} (g : Option plain.Tree) (before : List Lexeme)
    → IsRead view (λ d. expect symbol.Colon before (alternative_value d g)) after r → IsRead view (λ d. alternatives_read d g before) after r
read_alternatives g before h = read_deeper (λ d. alternatives_read d g before) (λ d. refl) h

-- an alternative that was read, and what stands after it
pub record AlternativeRead (g : Option plain.Tree) (before rest : List Lexeme) (x : plain.Alternative) : Type 0 where
  pub goes : (a : Answer (List plain.Alternative)) → Eventually (λ d. after_value d x rest) a → Eventually (λ d. alternatives_read d g before) a

pub alternative_read : {Y : Type 0} {view : Y → plain.Tree} {before inner rest : List Lexeme} {colon : Lexeme} {u : Y} (g : Option plain.Tree) (x : plain.Alternative) → Passes symbol.Colon before colon inner
    → IsRead view (λ d. expression_read true d inner) rest (Ok u) → x ≡ alternative_of g (view u) → AlternativeRead g before rest x
alternative_read {before = before} {inner = inner} {rest = rest} {u = u} g x p h is = record {
  goes = λ a on. deeper (λ d. alternatives_read d g before) (λ d. go_on (expression_read true d inner) (value_of_guard d g)) a (λ d. expect_passes (alternative_value d g) p)
      (goes (λ d. value_of_guard d g) (h.ok u refl) (subst (λ (y : plain.Alternative). Eventually (λ d. after_value d y rest) a) is on));
}

pub alternatives_more : {E G : Type 0} {view : E → plain.Alternative} {guard : G → Option plain.Tree} {before rest colon_at : List Lexeme} {e : E} {h : G} (g : Option plain.Tree) → AlternativeRead g before rest (view e)
    → begins symbol.Semicolon rest ≡ false → IsRead guard (λ d. guard_read d rest) colon_at (Ok h)
    → Builds (in_front view) (λ d. alternatives_read d g before) (e ∷ []) (λ d. alternatives_read d (guard h) colon_at)
alternatives_more {view = view} {guard = guard} {rest = rest} {colon_at = colon_at} {e = e} {h = h} g m b n = record {
  ok = λ xs after on. m.goes _ (same_answers _ (λ d. here d) (goes next (n.ok h refl) (goes put on (at_once _ _ (λ d. refl)))));
  err = λ k on. m.goes _ (same_answers _ (λ d. here d) (goes next (n.ok h refl) (stops put on)));
}
  where
    put : ℕ → List plain.Alternative → List Lexeme → Answer (List plain.Alternative)
    put d xs after = taken (view e ∷ xs) after

    next : ℕ → Option plain.Tree → List Lexeme → Answer (List plain.Alternative)
    next d = more_alternatives d (view e)

    here : (d : ℕ) → after_value d (view e) rest ≡ go_on (guard_read d rest) (next d)
    here d = ap (λ b. cond b (taken (view e ∷ []) rest) (go_on (guard_read d rest) (next d))) b

pub alternatives_last : {E : Type 0} {before rest : List Lexeme} (view : E → plain.Alternative) (e : E) (g : Option plain.Tree) → AlternativeRead g before rest (view e) → begins symbol.Semicolon rest ≡ true
    → Eventually (λ d. alternatives_read d g before) (taken (view e ∷ []) rest)
alternatives_last {rest = rest} view e g m b = m.goes _ (at_once _ _ (λ d. ap (λ b. cond b (taken (view e ∷ []) rest) (go_on (guard_read d rest) (more_alternatives d (view e)))) b))

pub alternatives_refused : {G Y : Type 0} {guard : G → Option plain.Tree} {seen_as : Y → List plain.Alternative} {before rest stopped after : List Lexeme} {e : Refusal} (g : Option plain.Tree) (x : plain.Alternative)
    → AlternativeRead g before rest x → begins symbol.Semicolon rest ≡ false → IsRead guard (λ d. guard_read d rest) stopped (Err e) → IsRead seen_as (λ d. alternatives_read d g before) after (Err e)
alternatives_refused {rest = rest} g x m b n = record {
  ok = λ y is. absurd (cc);
  err = λ k is. m.goes _ (same_answers _ (λ d. here d) (stops (λ d. more_alternatives d x) (n.err k (cc))));
}
  where
    here : (d : ℕ) → after_value d x rest ≡ go_on (guard_read d rest) (more_alternatives d x)
    here d = ap (λ b. cond b (taken (x ∷ []) rest) (go_on (guard_read d rest) (more_alternatives d x))) b

-- bodies

abbrev pub guarded_body : List plain.Alternative → List Lexeme → Answer plain.Body
guarded_body others after = taken (plain.guarded others) after

abbrev pub body_rest : ℕ → plain.Tree → List Lexeme → Answer plain.Body
body_rest d t rest = if begins symbol.Colon rest then go_on (alternatives_read d (Some t) rest) guarded_body else taken (plain.plain t) rest

abbrev pub body_tree : ℕ → List Lexeme → Answer plain.Body
body_tree d ls = go_on (expression_read false d ls) (body_rest d)

abbrev pub body_otherwise : ℕ → Lexeme → List Lexeme → Answer plain.Body
body_otherwise d _ rest = go_on (alternatives_read d None rest) guarded_body

pub read_guarded : {Y : Type 0} {view : Y → plain.Body} {after : List Lexeme} {r : Result Y Refusal} (t : plain.Tree) (rest : List Lexeme) → begins symbol.Colon rest ≡ true
    → IsRead view (λ d. go_on (alternatives_read d (Some t) rest) guarded_body) after r → IsRead view (λ d. body_rest d t rest) after r
read_guarded t rest e h = read_same _ (λ d. ap (λ b. cond b (go_on (alternatives_read d (Some t) rest) guarded_body) (taken (plain.plain t) rest)) e) h

-- blocks

abbrev pub more_blocks : ℕ → plain.Block → List Lexeme → Answer (List plain.Block)
more_blocks d b rest = go_on (blocks_read d rest) (λ bs after. taken (b ∷ bs) after)

abbrev pub definitions_block : ℕ → Lexeme → List Lexeme → Answer (List plain.Block)
definitions_block d _ inner = braced (definitions_read d) inner (λ ds rest. more_blocks d (plain.definitions ds) rest)

abbrev pub parameters_block : ℕ → Lexeme → List Lexeme → Answer (List plain.Block)
parameters_block d _ inner = braced (parameters_read d) inner (λ ds rest. more_blocks d (plain.parameters ds) rest)

abbrev pub other_block : ℕ → List Lexeme → Answer (List plain.Block)
other_block d ls = if_next symbol.Definitions ls (definitions_block d) (taken [] ls)

pub read_blocks : {Y : Type 0} {view : Y → List plain.Block} {after : List Lexeme} {r : Result Y Refusal} (before : List Lexeme) → IsRead view (λ d. if_next symbol.Parameters before (parameters_block d) (other_block d before)) after r
    → IsRead view (λ d. blocks_read d before) after r
read_blocks before h = read_deeper (λ d. blocks_read d before) (λ d. refl) h

-- a block that was read, and what stands after it
pub record BlockRead (before rest : List Lexeme) (b : plain.Block) : Type 0 where
  pub goes : (a : Answer (List plain.Block)) → Eventually (λ d. more_blocks d b rest) a → Eventually (λ d. blocks_read d before) a

pub parameters_are_block : {Y : Type 0} {view : Y → List plain.Definition} {before inner start rest after : List Lexeme} {l opener closer : Lexeme} {ds : Y} (b : plain.Block) → Passes symbol.Parameters before l inner
    → Passes symbol.OpenBrace inner opener start → IsRead view (λ d. parameters_read d start) rest (Ok ds) → Passes symbol.CloseBrace rest closer after → b ≡ plain.parameters (view ds) → BlockRead before after b
parameters_are_block {view = view} {before = before} {inner = inner} {start = start} {rest = rest} {after = after} {ds = ds} b p o h q is = record {
  goes = λ a on. deeper (λ d. blocks_read d before) (λ d. go_on (parameters_read d start) (λ xs r. expect symbol.CloseBrace r (λ _ e. more_blocks d (plain.parameters xs) e))) a
      (λ d. next_passes (parameters_block d) (other_block d before) p ∙ expect_passes (λ _ i. go_on (parameters_read d i) (λ xs r. expect symbol.CloseBrace r (λ _ e. more_blocks d (plain.parameters xs) e))) o)
      (goes (λ d xs r. expect symbol.CloseBrace r (λ _ e. more_blocks d (plain.parameters xs) e)) (h.ok ds refl)
      (same_answers _ (λ d. expect_passes (λ _ e. more_blocks d (plain.parameters (view ds)) e) q) (subst (λ (x : plain.Block). Eventually (λ d. more_blocks d x after) a) is on)));
}

pub definitions_are_block : {Y : Type 0} {view : Y → List plain.Definition} {before lacking inner start rest after : List Lexeme} {l opener closer : Lexeme} {ds : Y} (b : plain.Block) → Lacks symbol.Parameters before lacking
    → Passes symbol.Definitions lacking l inner → Passes symbol.OpenBrace inner opener start → IsRead view (λ d. definitions_read d start) rest (Ok ds) → Passes symbol.CloseBrace rest closer after
    → b ≡ plain.definitions (view ds) → BlockRead before after b
definitions_are_block {view = view} {before = before} {lacking = lacking} {inner = inner} {start = start} {rest = rest} {after = after} {ds = ds} b other p o h q is = record {
  goes = λ a on. deeper (λ d. blocks_read d before) (λ d. go_on (definitions_read d start) (λ xs r. expect symbol.CloseBrace r (λ _ e. more_blocks d (plain.definitions xs) e))) a
      (λ d. next_other (parameters_block d) (λ ls. other_block d ls) other ∙ next_passes (definitions_block d) (taken [] lacking) p
      ∙ expect_passes (λ _ i. go_on (definitions_read d i) (λ xs r. expect symbol.CloseBrace r (λ _ e. more_blocks d (plain.definitions xs) e))) o)
      (goes (λ d xs r. expect symbol.CloseBrace r (λ _ e. more_blocks d (plain.definitions xs) e)) (h.ok ds refl)
      (same_answers _ (λ d. expect_passes (λ _ e. more_blocks d (plain.definitions (view ds)) e) q) (subst (λ (x : plain.Block). Eventually (λ d. more_blocks d x after) a) is on)));
}

pub block_is : {before after : List Lexeme} {b : Block} → BlockRead before after (block_view b) → IsBlockRead before after (Ok (Some b))
block_is {before = before} {after = after} {b = b} m = record {
  some = λ x is. let same : b ≡ x = cc in subst (λ (y : Block). Builds (in_front block_view) (λ d. blocks_read d before) (y ∷ []) (λ d. blocks_read d after)) same built;
  none = λ is. absurd (cc);
  err = λ k is. absurd (cc);
}
  where
    put : ℕ → List plain.Block → List Lexeme → Answer (List plain.Block)
    put d bs end = taken (block_view b ∷ bs) end

    built : Builds (in_front block_view) (λ d. blocks_read d before) (b ∷ []) (λ d. blocks_read d after)
    built = record { ok = λ xs rest on. m.goes _ (goes put on (at_once _ _ (λ d. refl))); err = λ k on. m.goes _ (stops put on) }

pub block_refused : {Y : Type 0} {view : Y → List plain.Block} {before rest after : List Lexeme} {e : Refusal} (r : Result (Option Block) Refusal) → IsErrAnd r (λ x. x ≡ e) → IsRead view (λ d. blocks_read d before) rest (Err e)
    → IsBlockRead before after r
block_refused {before = before} {after = after} {e = e} r is h = let p = err_from_is_err_and r is in subst (λ (x : Result (Option Block) Refusal). IsBlockRead before after x) (sym (p.1 ∙ ap Err p.2)) here
  where
    here : IsBlockRead before after (Err e)
    here = record { some = λ x is. absurd (cc); none = λ is. absurd (cc); err = λ k at. h.err k (cc) }

pub no_block : {before lacking after : List Lexeme} → Lacks symbol.Parameters before lacking → Lacks symbol.Definitions lacking after → IsBlockRead before after (Ok None)
no_block {before = before} {lacking = lacking} {after = after} p q = record {
  some = λ x is. absurd (cc);
  none = λ is. deeper (λ d. blocks_read d before) (λ d. taken [] after) _ (λ d. next_other (parameters_block d) (λ ls. other_block d ls) p ∙ next_other (definitions_block d) (λ ls. taken [] ls) q) (at_once _ _ (λ d. refl));
  err = λ k is. absurd (cc);
}

pub definitions_until : Until definitions_read definition_read
definitions_until = record {
  ends = λ d ls e. ap (λ b. cond b (taken [] ls) (go_on (definition_read d ls) (λ x rest. go_on (definitions_read d rest) (λ xs after. taken (x ∷ xs) after)))) e;
  goes = λ d ls e. ap (λ b. cond b (taken [] ls) (go_on (definition_read d ls) (λ x rest. go_on (definitions_read d rest) (λ xs after. taken (x ∷ xs) after)))) e;
}

abbrev more_parameters : ℕ → plain.Definition → List Lexeme → Answer (List plain.Definition)
more_parameters d x rest = go_on (parameters_read d rest) (λ xs after. taken (x ∷ xs) after)

abbrev parameter_value : ℕ → Lexeme → List Lexeme → Answer plain.Definition
parameter_value d l inner = go_on (expression_read false d inner) (λ t rest. expect symbol.Semicolon rest (λ _ after. taken (plain.parameter (word_of l) t) after))

abbrev after_parameter : ℕ → Lexeme → plain.Tree → List Lexeme → Answer (List plain.Definition)
after_parameter d l t rest = expect symbol.Semicolon rest (λ _ after. more_parameters d (plain.parameter (word_of l) t) after)

abbrev parameter_with : ℕ → List Lexeme → Answer (List plain.Definition)
parameter_with d ls = expect symbol.Ident ls (λ l sign_at. expect symbol.Assign sign_at (λ _ inner. go_on (expression_read false d inner) (λ t rest. after_parameter d l t rest)))

parameter_split : (d : ℕ) (ls : List Lexeme) → parameter_with d ls ≡ go_on (parameter_read d ls) (more_parameters d)
parameter_split d ls = sym (
    go_expect symbol.Ident ls (λ l sign_at. expect symbol.Assign sign_at (λ _ inner. parameter_value d l inner)) (more_parameters d)
    ∙ expect_same symbol.Ident ls (λ l sign_at. go_on (expect symbol.Assign sign_at (λ _ inner. parameter_value d l inner)) (more_parameters d))
    (λ l sign_at. expect symbol.Assign sign_at (λ _ inner. go_on (expression_read false d inner) (λ t rest. after_parameter d l t rest))) (λ l sign_at.
    go_expect symbol.Assign sign_at (λ _ inner. parameter_value d l inner) (more_parameters d)
    ∙ expect_same symbol.Assign sign_at (λ _ inner. go_on (parameter_value d l inner) (more_parameters d)) (λ _ inner. go_on (expression_read false d inner) (λ t rest. after_parameter d l t rest)) (λ sign inner.
    go_go (expression_read false d inner) (λ t rest. expect symbol.Semicolon rest (λ _ after. taken (plain.parameter (word_of l) t) after)) (more_parameters d)
    ∙ go_same (expression_read false d inner) (λ t rest. go_on (expect symbol.Semicolon rest (λ _ after. taken (plain.parameter (word_of l) t) after)) (more_parameters d)) (λ t rest. after_parameter d l t rest) (λ t rest.
    go_expect symbol.Semicolon rest (λ _ after. taken (plain.parameter (word_of l) t) after) (more_parameters d)))))

pub parameters_until : Until parameters_read parameter_read
parameters_until = record {
  ends = λ d ls e. ap (λ b. cond b (taken [] ls) (parameter_with d ls)) e;
  goes = λ d ls e. ap (λ b. cond b (taken [] ls) (parameter_with d ls)) e ∙ parameter_split d ls;
}

-- a block that is refused behind others
pub block_stopped : {Y : Type 0} {view : Y → List plain.Block} {before after rest : List Lexeme} {e : Refusal} → IsBlockRead before after (Err e) → IsRead view (λ d. blocks_read d before) rest (Err e)
block_stopped h = record { ok = λ y is. absurd (cc); err = λ k is. h.err k (cc) }

-- a definition that is no enumeration, and one without arguments

abbrev pub constant_definition : Lexeme → ℕ → List Lexeme → Answer plain.Definition
constant_definition l d next = function_read d (word_of l) [] next

abbrev pub named_definition : ℕ → List Lexeme → Answer plain.Definition
named_definition d ls =
    expect symbol.Ident ls (λ l next. if_next symbol.OpenParen next (λ _ inner. go_on (names_read d inner) (λ ws rest. expect symbol.CloseParen rest (λ _ sign_at. function_read d (word_of l) ws sign_at)))
    (constant_definition l d next))

abbrev pub after_enum : ℕ → Lexeme → List Lexeme → Answer plain.Definition
after_enum d _ name_at = enumeration_read d name_at

abbrev pub after_parameters : ℕ → List plain.Definition → List Lexeme → Answer (List plain.Block)
after_parameters d ds rest = expect symbol.CloseBrace rest (λ _ after. more_blocks d (plain.parameters ds) after)

abbrev pub in_parameters : ℕ → Lexeme → List Lexeme → Answer (List plain.Block)
in_parameters d _ inner = go_on (parameters_read d inner) (after_parameters d)

abbrev pub after_definitions : ℕ → List plain.Definition → List Lexeme → Answer (List plain.Block)
after_definitions d ds rest = expect symbol.CloseBrace rest (λ _ after. more_blocks d (plain.definitions ds) after)

abbrev pub in_definitions : ℕ → Lexeme → List Lexeme → Answer (List plain.Block)
in_definitions d _ inner = go_on (definitions_read d inner) (after_definitions d)
