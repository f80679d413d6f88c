-- A pair's array of live calls, and the list that it stands for.
use Rattle.std.proofs.Common.{◌≡◌, ℕ, ◌+◌, ◌<◌, ◌≤◌, List, [], ◌∷◌, length, take, set, reverse, ◌∙◌, ap, length-take-le}
use Rattle.std.proofs.lemmas.List.{take_more_set, reverse-append, length-reverse}
use Rattle.call_broker.specs.Pair.{PairState}
use Rattle.qrexec_c.specs.declared.pair.Pair.{Pair}
use Rattle.qrexec_c.specs.Pairs.{StandsFor}

-- how many live calls there are
pub count_is : (p : Pair) (s : PairState) → p.live_count ≤ length p.live → StandsFor p s → length s.live ≡ p.live_count
count_is p s within stands = ap length stands.live ∙ length-reverse (take p.live_count p.live) ∙ length-take-le p.live_count p.live within

-- one more live call
pub enters : (live : List ℕ) (n port : ℕ) → n < length live → reverse (take (n + 1) (set live n port)) ≡ port ∷ reverse (take n live)
enters live n port within = ap reverse (take_more_set live n port within) ∙ reverse-append (take n live) (port ∷ [])
