-- A gone word is set once, by its own end, and tells whether that end is retired.
use Rattle.std.proofs.Common.{◌≡◌, ℕ, Bool, cond, List, length, subst, sym, ap, ◌∙◌}
use Rattle.ring_words.specs.declared.page.Role.{Role}
use Rattle.ring_words.specs.declared.page.Role.TheVariants.{Server, Client}
use Rattle.vchan_protocol.specs.Table.Plan.{GoesOn}
use Rattle.vchan_protocol.specs.Table.Ends.{own_gone, peer_gone, prod_word, read_ring}
use Rattle.vchan_protocol.specs.Table.Apply.{words_after}
use Rattle.vchan_protocol.specs.History.Core.{Core, side_of, event, plan_left, op_next, sets_gone}
use Rattle.vchan_protocol.specs.Honest.RingLaw.{index_at, word_at}
use Rattle.vchan_protocol.specs.Honest.LifeLaw.{LifeLawful, TellsGone}
use Rattle.vchan_protocol.specs.History.Peer.{held, peer}
use Rattle.vchan_protocol.specs.Honest.Lawful.{Lawful}
use Rattle.vchan_protocol.proofs.Honest.LifeTrails.{OwesLife}
use Rattle.vchan_protocol.proofs.Honest.LifeWords.{spared_stays, peer_gone_spared, gone_is, peer_unset}
use Rattle.vchan_protocol.proofs.Honest.LifeSides.{Between, as_server, as_client}
use Rattle.vchan_protocol.proofs.Honest.LifeOwed.{in_lawful_call}
use Rattle.vchan_protocol.proofs.Honest.LifeSteps.{owes_next, long_words}

owes_life : (core : Core) (who : Role) → Lawful core → GoesOn (plan_left (side_of core who)) → OwesLife (op_next (side_of core who)) (side_of core who).role (side_of core who).state
owes_life core Server h more =
    owes_next core.start core.said core.orders core.words core.server core.client (in_lawful_call core.server h.server_call more) more (long_words core h)
    (subst (λ (r : Role). Between r core.start core.said core.orders core.words core.server core.client) (sym h.server_end.role_is) (as_server core h.lives))
    (subst (λ (r : Role). word_at core.orders core.words (prod_word (read_ring r)) ≡ index_at core.start (length core.client.sent)) (sym h.server_end.role_is) h.left.lawful.prod)
owes_life core Client h more =
    owes_next core.start core.said core.orders core.words core.client core.server (in_lawful_call core.client h.client_call more) more (long_words core h)
    (subst (λ (r : Role). Between r core.start core.said core.orders core.words core.client core.server) (sym h.client_end.role_is) (as_client core h.lives))
    (subst (λ (r : Role). word_at core.orders core.words (prod_word (read_ring r)) ≡ index_at core.start (length core.server.sent)) (sym h.client_end.role_is) h.right.lawful.prod)

owes_as : (core : Core) (who : Role) → Lawful core → GoesOn (plan_left (side_of core who)) → OwesLife (op_next (side_of core who)) who (side_of core who).state
owes_as core Server h more = subst (λ (r : Role). OwesLife (op_next core.server) r core.server.state) h.server_end.role_is (owes_life core Server h more)
owes_as core Client h more = subst (λ (r : Role). OwesLife (op_next core.client) r core.client.state) h.client_end.role_is (owes_life core Client h more)

-- the words of a gone word's end, and of its peer
gone_own : (core : Core) (who : Role) (payload : List ℕ) → Lawful core → GoesOn (plan_left (side_of core who)) →
    word_at core.orders (words_after core.orders core.words payload (op_next (side_of core who))) (own_gone who) ≡ cond (sets_gone (op_next (side_of core who)) who) 1 (held core (own_gone who))
gone_own core who payload h more = gone_is core.orders core.words payload (long_words core h) (op_next (side_of core who)) who (side_of core who).state (owes_as core who h more)

gone_peer : (core : Core) (who : Role) (payload : List ℕ) → Lawful core → GoesOn (plan_left (side_of core who)) →
    word_at core.orders (words_after core.orders core.words payload (op_next (side_of core who))) (peer_gone who) ≡ cond (sets_gone (op_next (side_of core who)) (peer who)) 1 (held core (peer_gone who))
gone_peer core who payload h more =
    spared_stays core.orders core.words payload (op_next (side_of core who)) who (side_of core who).state _ (peer_gone_spared core.orders who) (owes_as core who h more)
    ∙ sym (ap (λ (b : Bool). cond b 1 (held core (peer_gone who))) (peer_unset (op_next (side_of core who)) who (side_of core who).state (owes_as core who h more)))

-- a gone word is set once, by its own end
pub gone_set : (core : Core) (who whose : Role) → Lawful core → GoesOn (plan_left (side_of core who)) → held (event core who) (own_gone whose) ≡ cond (sets_gone (op_next (side_of core who)) whose) 1 (held core (own_gone whose))
unfolding event
gone_set core Server Server h more = gone_own core Server core.server.payload h more
gone_set core Client Client h more = gone_own core Client core.client.payload h more
gone_set core Server Client h more = gone_peer core Server core.server.payload h more
gone_set core Client Server h more = gone_peer core Client core.client.payload h more

-- it is 1 if and only if its end is retired
pub gone_tells_retired : (core : Core) (who : Role) → LifeLawful core → TellsGone (held core (own_gone who)) (side_of core who).retired (side_of core who).state
gone_tells_retired core Server h = h.server_words.gone
gone_tells_retired core Client h = h.client_words.gone
