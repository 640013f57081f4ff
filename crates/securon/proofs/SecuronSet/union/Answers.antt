-- `securon::SecuronSet::union` meets its contract: the marks passed have the other's added, and the rest stand as they were. Assumes nothing.
use Rattle.std.proofs.Common.{rules, arith, ◌≡◌, ◌↔◌, ◌⊎◌, ℕ, ◌<◌, length, inl, ⊎_elim}
use Rattle.std.proofs.Math.Decide.{dec_lt}
use Rattle.securon.specs.Sets.{set_room, marked}
use Rattle.securon.specs.Laws.{beyond}
use Rattle.logic.specs.Iff.{or-iff, iff-refl}
use Rattle.securon.proofs.SecuronSet.union.Goals as goal

pub returns : goal.returns
returns c = λ u. go u (dec_lt u set_room)
  where
    go : (u : ℕ) → Dec (u < set_room) → marked c.loop-k.mark-items u ↔ (marked c.args.self.has u ⊎ marked c.args.more.has u)
    go u (yes h) = rw (c.loop-k.invariant.passed u (omega arith)) (or-iff _ _ iff-refl iff-refl)
    go u (no n) =
        let long : length c.args.more.has ≡ set_room = search rules in
        rw (c.loop-k.invariant.left u (omega arith)) (inl, ⊎_elim (λ m. m) (λ m. absurd (beyond c.args.more.has u (omega arith) m)))
