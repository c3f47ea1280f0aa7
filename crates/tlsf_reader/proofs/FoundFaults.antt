-- The earliest of several sorts of faults.
use Rattle.std.proofs.Common.{◌≡◌, ◌≤◌, ◌⊎◌, ℕ, Option, None, Some, Ok, Err, refl, sym, ◌∙◌, subst, arith, inl, inr}
use Rattle.spec_faults.specs.declared.code.SpecCode.{SpecCode}
use Rattle.spec_faults.specs.declared.code.SpecCode.TheVariants.{Unexpected, Missing, Twice, TooDeep, Unsupported}
use Rattle.spec_faults.specs.declared.code.SpecFault.{SpecFault}
use Rattle.spec_faults.specs.declared.code.SpecFault.TheVariants.{At}
use Rattle.tlsf_syntax.specs.declared.spec.SpecTree.{SpecTree}
use Rattle.tlsf_syntax.specs.Seen.{text_seen}
use Rattle.tlsf_syntax.specs.Tree.{Written}
use Rattle.tlsf_syntax.specs.Lexemes.{Lexeme}
use Rattle.std.specs.Prelude.{List}
use Rattle.tlsf_reader.specs.Parts.{declared_words, text_of}
use Rattle.tlsf_reader.specs.Faults.{HasLateFault, part_twice, name_twice, field_missing, part_missing, start_at, IsFirstOf}
use Rattle.tlsf_reader.specs.Known.{place_in, IsKnown, stopped, deepened, finite, IsEarliest, fault_at, stop_fault, deep_fault}
use Rattle.tlsf_reader.specs.Least.{IsLeast, Reaches, least}
use Rattle.tlsf_reader.specs.Places.{FiniteAt, RepeatedAt, PartTwiceAt, NameTwiceAt, FieldMissingAt, PartMissingAt, earlier, IsReadResult}
use Rattle.tlsf_reader.specs.declared.fault.Fault.{Fault}
use Rattle.tlsf_reader.proofs.LeastPlaces.{earliest_of_both, least_of_both}

-- faults of two sorts
earliest_of : (P Q R : SpecCode → ℕ → Type 0) (a b : Option Fault) → IsEarliest P a → IsEarliest Q b → ((code : SpecCode) (place : ℕ) → P code place → R code place) → ((code : SpecCode) (place : ℕ) → Q code place → R code place)
    → ((code : SpecCode) (place : ℕ) → R code place → P code place ⊎ Q code place) → IsEarliest R (earlier a b)
earliest_of P Q R a b h k f g split =
    earliest_of_both (λ (x : Fault). x.place) (λ x. P x.code x.place) (λ x. Q x.code x.place) (λ x. R x.code x.place) a b h k (λ x. f x.code x.place) (λ x. g x.code x.place) (λ x. split x.code x.place)

-- faults of one code
data Coded (code : SpecCode) (P : ℕ → Type 0) : SpecCode → ℕ → Type 0 where
  coded : (place : ℕ) → P place → Coded code P code place

coded_is : (code : SpecCode) (P : ℕ → Type 0) (found : Option ℕ) → IsLeast P found → IsEarliest (Coded code P) (fault_at code found)
coded_is code P found h = record { at = λ f e. at found h f e; below = λ x r. below x.code x.place r }
  where
    at : (found : Option ℕ) → IsLeast P found → (f : Fault) → fault_at code found ≡ Some f → Coded code P f.code f.place
    at None i f e = absurd cc
    at (Some p) i f e = let same : ◌≡◌ {A = Fault} (record { code = code; place = p }) f = cc in subst (λ (g : Fault). Coded code P g.code g.place) same (coded p (i.at p refl))

    reach : (found : Option ℕ) (place : ℕ) → Reaches (λ p. p) found place → Reaches (λ (f : Fault). f.place) (fault_at code found) place
    reach None place r = r
    reach (Some p) place r = r

    below : (other : SpecCode) (place : ℕ) → Coded code P other place → Reaches (λ (f : Fault). f.place) (fault_at code found) place
    below other place (coded q r) = reach found q (h.below q r)

-- the faults that are known without the grammar

data IsStopped (stop : Option SpecCode) (stop_at : ℕ) : SpecCode → ℕ → Type 0 where
  here : (code : SpecCode) → stop ≡ Some code → IsStopped stop stop_at code stop_at

data IsDeep (ls : List Lexeme) (stop_at : ℕ) (deep : Option ℕ) : SpecCode → ℕ → Type 0 where
  there : (k : ℕ) → deep ≡ Some k → IsDeep ls stop_at deep TooDeep (place_in ls stop_at k)

stop_is : (stop : Option SpecCode) (stop_at : ℕ) → IsEarliest (IsStopped stop stop_at) (stop_fault stop stop_at)
stop_is stop stop_at = record { at = λ f e. at stop refl f e; below = λ x r. below stop refl x.code x.place r }
  where
    at : (s : Option SpecCode) → stop ≡ s → (f : Fault) → stop_fault s stop_at ≡ Some f → IsStopped stop stop_at f.code f.place
    at None g f e = absurd cc
    at (Some c) g f e = let same : ◌≡◌ {A = Fault} (record { code = c; place = stop_at }) f = cc in subst (λ (x : Fault). IsStopped stop stop_at x.code x.place) same (here c g)

    below : (s : Option SpecCode) → stop ≡ s → (code : SpecCode) (place : ℕ) → IsStopped stop stop_at code place → Reaches (λ (f : Fault). f.place) (stop_fault s stop_at) place
    below None g code place (here c e) = absurd cc
    below (Some c) g code place (here d e) = omega arith

deep_is : (ls : List Lexeme) (stop_at : ℕ) (deep : Option ℕ) → IsEarliest (IsDeep ls stop_at deep) (deep_fault ls stop_at deep)
deep_is ls stop_at deep = record { at = λ f e. at deep refl f e; below = λ x r. below deep refl x.code x.place r }
  where
    at : (d : Option ℕ) → deep ≡ d → (f : Fault) → deep_fault ls stop_at d ≡ Some f → IsDeep ls stop_at deep f.code f.place
    at None g f e = absurd cc
    at (Some k) g f e = let same : ◌≡◌ {A = Fault} (record { code = TooDeep; place = place_in ls stop_at k }) f = cc in subst (λ (x : Fault). IsDeep ls stop_at deep x.code x.place) same (there k g)

    below : (d : Option ℕ) → deep ≡ d → (code : SpecCode) (place : ℕ) → IsDeep ls stop_at deep code place → Reaches (λ (f : Fault). f.place) (deep_fault ls stop_at d) place
    below None g code place (there k e) = absurd cc
    below (Some j) g code place (there k e) = let same : j ≡ k = cc in subst (λ x. place_in ls stop_at x ≤ place_in ls stop_at k) (sym same) (omega arith)

pub known_found : (ls : List Lexeme) (stop : Option SpecCode) (stop_at : ℕ) (deep finite_at : Option ℕ) → IsLeast (FiniteAt ls) finite_at
    → IsEarliest (IsKnown ls stop stop_at deep) (earlier (earlier (stop_fault stop stop_at) (deep_fault ls stop_at deep)) (fault_at Unsupported finite_at))
known_found ls stop stop_at deep finite_at h =
    earliest_of Plain (Coded Unsupported (FiniteAt ls)) (IsKnown ls stop stop_at deep) (earlier (stop_fault stop stop_at) (deep_fault ls stop_at deep)) (fault_at Unsupported finite_at)
    (earliest_of (IsStopped stop stop_at) (IsDeep ls stop_at deep) Plain (stop_fault stop stop_at) (deep_fault ls stop_at deep) (stop_is stop stop_at) (deep_is ls stop_at deep) (λ code place r. inl r) (λ code place r. inr r) (λ code place r. r))
    (coded_is Unsupported (FiniteAt ls) finite_at h) plain_known finite_known split
  where
    Plain : SpecCode → ℕ → Type 0
    Plain code place = IsStopped stop stop_at code place ⊎ IsDeep ls stop_at deep code place

    plain_known : (code : SpecCode) (place : ℕ) → IsStopped stop stop_at code place ⊎ IsDeep ls stop_at deep code place → IsKnown ls stop stop_at deep code place
    plain_known code place (inl (here c e)) = stopped c e
    plain_known code place (inr (there k e)) = deepened k e

    finite_known : (code : SpecCode) (place : ℕ) → Coded Unsupported (FiniteAt ls) code place → IsKnown ls stop stop_at deep code place
    finite_known code place (coded p r) = finite p r

    split : (code : SpecCode) (place : ℕ) → IsKnown ls stop stop_at deep code place → (IsStopped stop stop_at code place ⊎ IsDeep ls stop_at deep code place) ⊎ Coded Unsupported (FiniteAt ls) code place
    split code place (stopped c e) = inl (inl (here c e))
    split code place (deepened k e) = inl (inr (there k e))
    split code place (finite p r) = inr (coded p r)

-- the faults of a text of the grammar

twice_found : (ls : List Lexeme) (w : Written) (a b : Option ℕ) → IsLeast (PartTwiceAt ls) a → IsLeast (NameTwiceAt (declared_words w)) b → IsLeast (λ p. PartTwiceAt ls p ⊎ NameTwiceAt (declared_words w) p) (least a b)
twice_found ls w a b h k =
    least_of_both (PartTwiceAt ls) (NameTwiceAt (declared_words w)) (λ p. PartTwiceAt ls p ⊎ NameTwiceAt (declared_words w) p) a b h k (λ p r. inl r) (λ p r. inr r) (λ p r. r)

missing_found : (ls : List Lexeme) (a b : Option ℕ) → IsLeast (FieldMissingAt ls) a → IsLeast (PartMissingAt ls) b → IsLeast (λ p. FieldMissingAt ls p ⊎ PartMissingAt ls p) (least a b)
missing_found ls a b h k =
    least_of_both (FieldMissingAt ls) (PartMissingAt ls) (λ p. FieldMissingAt ls p ⊎ PartMissingAt ls p) a b h k (λ p r. inl r) (λ p r. inr r) (λ p r. r)

twice_late : (ls : List Lexeme) (w : Written) (code : SpecCode) (place : ℕ) → Coded Twice (λ p. PartTwiceAt ls p ⊎ NameTwiceAt (declared_words w) p) code place → HasLateFault ls w code place
twice_late ls w code place (coded p (inl r)) =
    let q : RepeatedAt r.head ls p = r.repeated in subst (HasLateFault ls w Twice) q.place_is (part_twice q.first q.second r.head r.heads q.order q.before q.here)
twice_late ls w code place (coded p (inr r)) = subst (HasLateFault ls w Twice) r.place_is (name_twice r.first_at r.second_at r.first r.second r.order r.before r.here r.same)

missing_late : (ls : List Lexeme) (w : Written) (code : SpecCode) (place : ℕ) → Coded Missing (λ p. FieldMissingAt ls p ⊎ PartMissingAt ls p) code place → HasLateFault ls w code place
missing_late ls w code place (coded p (inl r)) = subst (HasLateFault ls w Missing) r.place_is (field_missing r.field r.brace r.needed r.absent r.closes r.first)
missing_late ls w code place (coded p (inr r)) = subst (HasLateFault ls w Missing) r.place_is (part_missing r.part r.brace r.needed r.absent r.last)

late_split : (ls : List Lexeme) (w : Written) (code : SpecCode) (place : ℕ) → HasLateFault ls w code place
    → Coded Twice (λ p. PartTwiceAt ls p ⊎ NameTwiceAt (declared_words w) p) code place ⊎ Coded Missing (λ p. FieldMissingAt ls p ⊎ PartMissingAt ls p) code place
late_split ls w code place (part_twice j k s h o b e) = inl (coded (start_at ls k) (inl (record { head = s; heads = h; repeated = record { first = j; second = k; order = o; before = b; here = e; place_is = refl } })))
late_split ls w code place (name_twice j k first second o b e same) =
    inl (coded second.span.start (inr (record { first_at = j; second_at = k; first = first; second = second; order = o; before = b; here = e; same = same; place_is = refl })))
late_split ls w code place (field_missing s k needed lacks closes first) = inr (coded (start_at ls k) (inl (record { field = s; needed = needed; absent = lacks; brace = k; closes = closes; first = first; place_is = refl })))
late_split ls w code place (part_missing s k needed lacks last) = inr (coded (start_at ls k) (inr (record { part = s; needed = needed; absent = lacks; brace = k; last = last; place_is = refl })))

pub late_found : (ls : List Lexeme) (w : Written) (a b c d : Option ℕ) → IsLeast (PartTwiceAt ls) a → IsLeast (NameTwiceAt (declared_words w)) b → IsLeast (FieldMissingAt ls) c → IsLeast (PartMissingAt ls) d
    → IsEarliest (HasLateFault ls w) (earlier (fault_at Twice (least a b)) (fault_at Missing (least c d)))
late_found ls w a b c d one two three four =
    earliest_of (Coded Twice (λ p. PartTwiceAt ls p ⊎ NameTwiceAt (declared_words w) p)) (Coded Missing (λ p. FieldMissingAt ls p ⊎ PartMissingAt ls p)) (HasLateFault ls w) (fault_at Twice (least a b)) (fault_at Missing (least c d))
    (coded_is Twice (λ p. PartTwiceAt ls p ⊎ NameTwiceAt (declared_words w) p) (least a b) (twice_found ls w a b one two)) (coded_is Missing (λ p. FieldMissingAt ls p ⊎ PartMissingAt ls p) (least c d) (missing_found ls c d three four))
    (twice_late ls w) (missing_late ls w) (late_split ls w)

late_code : (ls : List Lexeme) (w : Written) (code : SpecCode) (place : ℕ) → HasLateFault ls w code place → code ≡ Unexpected → ⊥
late_code ls w code place (part_twice j k s h o b e) f = absurd cc
late_code ls w code place (name_twice j k first second o b e same) f = absurd cc
late_code ls w code place (field_missing s k needed lacks closes first) f = absurd cc
late_code ls w code place (part_missing s k needed lacks last) f = absurd cc

-- the earliest late fault is the first one
pub late_first : (ls : List Lexeme) (w : Written) (f : Fault) → IsEarliest (HasLateFault ls w) (Some f) → IsFirstOf (HasLateFault ls w) f.code f.place
late_first ls w f h = record {
  has = h.at f refl;
  least = λ code place r. h.below (record { code = code; place = place }) r;
  gives_way = λ e. absurd (late_code ls w f.code f.place (h.at f refl) e);
}

-- a text of the grammar is refused by its earliest late fault
pub accepted_fault : (ls : List Lexeme) (w : Written) (found : Option Fault) (f : Fault) (g : SpecFault) → IsEarliest (HasLateFault ls w) found → found ≡ Some f → g ≡ At f.code f.place → IsReadResult ls w (Err g)
accepted_fault ls w found f g h e i = record {
  sound = λ tree n. absurd cc;
  tree = λ tree n. absurd cc;
  fault = λ code place n.
      let whole : At f.code f.place ≡ At code place = sym i ∙ (let same : g ≡ At code place = cc in same) in
      let codes : f.code ≡ code = cc in
      let places : f.place ≡ place = cc in
      let first : IsFirstOf (HasLateFault ls w) f.code f.place = late_first ls w f (subst (IsEarliest (HasLateFault ls w)) e h) in
      subst (λ c. IsFirstOf (HasLateFault ls w) c place) codes (subst (IsFirstOf (HasLateFault ls w) f.code) places first);
}

-- a text of the grammar without a late fault is the tree of its parts
pub accepted_tree : (ls : List Lexeme) (w : Written) (found : Option Fault) (tree : SpecTree) → IsEarliest (HasLateFault ls w) found → found ≡ None → text_seen tree ≡ text_of w → IsReadResult ls w (Ok tree)
accepted_tree ls w found tree h e i = record {
  sound = λ t n code place r. subst (λ x. Reaches (λ (f : Fault). f.place) x place) e (h.below (record { code = code; place = place }) r);
  tree = λ t n. let same : tree ≡ t = cc in subst (λ (u : SpecTree). text_seen u ≡ text_of w) same i;
  fault = λ code place n. absurd cc;
}
