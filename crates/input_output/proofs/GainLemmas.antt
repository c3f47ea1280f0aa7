-- What a sink gained by several pieces.
use Rattle.std.specs.Prelude.{Err, IsErrOf}
use Rattle.std.proofs.Common.{◌≡◌, ℕ, List, [], ◌++◌, refl, sym, ◌∙◌, ap, Option, Some, None, append_assoc, append-nil}
use Rattle.input_output.specs.declared.sink.SinkFault.{SinkFault}
use Rattle.input_output.specs.declared.sink.SinkFault.TheVariants.{Failed, NoMemory}
use Rattle.input_output.specs.Bytes.{Gains, GainsFront}
use Rattle.input_output.proofs.EdgeLemmas.{Gains-append}

pub gains_nothing : (a b : Option (List ℕ)) → b ≡ a → Gains a b []
gains_nothing None b same = same
gains_nothing (Some s) b same = same ∙ ap Some (sym (append-nil s))

-- the pieces so far and a front of the next one are a front of the whole
pub front_more : (a b c : Option (List ℕ)) (x piece later rest bytes : List ℕ) → Gains a b x → GainsFront b c piece →
    piece ++ later ≡ rest → x ++ rest ≡ bytes → GainsFront a c bytes
front_more a b c x piece later rest bytes one two cut whole = record {
  front = x ++ two.front;
  rest = two.rest ++ later;
  whole = append_assoc x two.front (two.rest ++ later)
      ∙ ap (λ t. x ++ t) (sym (append_assoc two.front two.rest later) ∙ ap (λ t. t ++ later) two.whole ∙ cut) ∙ whole;
  gained = Gains-append a b c x two.front one two.gained;
}

-- a fault leaves a front, which is nothing where memory was wanted
pub front_of_fault : (fault : SinkFault) (a b : Option (List ℕ)) (bytes : List ℕ) →
    (IsErrOf {T = Unit {0}} (Err fault) Failed → GainsFront a b bytes) → (IsErrOf {T = Unit {0}} (Err fault) NoMemory → b ≡ a) →
    GainsFront a b bytes
front_of_fault Failed a b bytes failed wanted = failed refl
front_of_fault NoMemory a b bytes failed wanted =
    record { front = []; rest = bytes; whole = refl; gained = gains_nothing a b (wanted refl) }
