use Rattle.std.proofs.Common.{◌≡◌, ℕ, ◌+◌, ◌<◌, ◌≤◌, [], ◌∷◌, ◌++◌, sym, ◌∙◌, ap, subst, arith}
use Rattle.batch_run.specs.Claims.{AreAllPlaces, ClaimsModel, split_at}
use Rattle.batch_run.proofs.ClaimLemmas.{all_places, places_below-push, places-first}
use Rattle.batch_run.proofs.claims.Claims.claim.Goals as goal

-- all places are still there after one more claim
all_there : (next count places : ℕ) → next ≤ count → count ≡ places → AreAllPlaces places (split_at next count)
all_there next count places within is =
    let P : ℕ → Type 0 = λ n. AreAllPlaces n (split_at next count) in
    subst P is (all_places next count within)

pub invariant_of-self : goal.invariant_of-self
invariant_of-self g c =
    let within = c.self.invariant.0 in
    let more = c.if-self.false in
    let still : c.self.inside.next + 1 ≤ c.self.inside.count = omega arith in
    (still, c.self.invariant.1, all_there (c.self.inside.next + 1) c.self.inside.count _ still c.self.invariant.1)

pub returns-clause-some : goal.returns-clause-some
returns-clause-some g c =
    let within = c.self.invariant.0 in
    let more = c.if-self.false in
    let left : c.self.inside.next < c.self.inside.count = omega arith in
    sym (ap (λ (m : ClaimsModel). m.unclaimed) c.self.view_is) ∙ places-first c.self.inside.next c.self.inside.count left

pub returns-clause-claimed : goal.returns-clause-claimed
returns-clause-claimed g c =
    places_below-push c.self.inside.next ∙ ap (λ (m : ClaimsModel). m.claimed ++ c.self.inside.next ∷ []) c.self.view_is

pub returns-clause-all : goal.returns-clause-all
returns-clause-all g c =
    let within = c.self.invariant.0 in
    let more = c.if-self.false in
    let still : c.self.inside.next + 1 ≤ c.self.inside.count = omega arith in
    all_there (c.self.inside.next + 1) c.self.inside.count _ still c.self.invariant.1
