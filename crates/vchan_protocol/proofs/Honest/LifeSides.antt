-- The laws on lives as one end sees them. The opening has them, and a begin keeps them.
use Rattle.std.proofs.Common.{◌≡◌, ◌≢◌, ℕ, true, false, List, refl}
use Rattle.std.proofs.lemmas.Bool.{false≢true}
use Rattle.ring_words.specs.declared.order.Orders.{Orders}
use Rattle.ring_words.specs.declared.page.Role.{Role}
use Rattle.ring_words.specs.declared.page.Role.TheVariants.{Server, Client}
use Rattle.ring_words.specs.declared.page.WordName.TheVariants.{LeftOrder, RightOrder}
use Rattle.vchan_protocol.specs.declared.call.Call.{Call}
use Rattle.vchan_protocol.specs.declared.call.EndState.{EndState}
use Rattle.vchan_protocol.specs.declared.call.EndState.TheVariants.{Fresh, Open, Shut}
use Rattle.vchan_protocol.specs.declared.side.Side.{Side}
use Rattle.vchan_protocol.specs.Table.Ends.{own_live, own_gone, peer_live, peer_gone}
use Rattle.vchan_protocol.specs.History.Page.{live_word}
use Rattle.vchan_protocol.specs.History.Core.{Core, opened, begun, begins}
use Rattle.vchan_protocol.specs.Honest.RingLaw.{word_at}
use Rattle.vchan_protocol.specs.Honest.LifeLaw.{LifeLawful, SightLawful, StreamLawful, TellsGone, SaysOrders, OrdersGive}

-- ---- the opening

open_fresh : Open ≢ Fresh
open_fresh e = cc

pub life_opened : (orders : Orders) (start : ℕ) (said : ℕ × ℕ) (state : EndState) → state ≢ Shut → LifeLawful (opened orders start said state)
life_opened orders start said state fresh = record {
  server_words = record { live = refl; gone = record { word = refl; shut = λ e. absurd (false≢true e) } };
  client_words = record { live = refl; gone = record { word = refl; shut = λ e. absurd (false≢true e) } };
  server_opened = open_fresh;
  left_order = refl;
  right_order = refl;
  server_sight = record { saw = λ e. absurd (false≢true e); seen = λ e. absurd (false≢true e); later = tt };
  client_sight = record { saw = λ e. absurd (false≢true e); seen = λ e. absurd (false≢true e); later = tt };
  not_both_saw = λ both. false≢true both.0;
  left = record { shut = λ e. absurd (false≢true e); all = λ e. absurd (false≢true e); ended = λ e. absurd (false≢true e) };
  right = record { shut = λ e. absurd (false≢true e); all = λ e. absurd (false≢true e); ended = λ e. absurd (false≢true e) };
  server_orders = tt;
  client_orders = tt;
  none_misled = λ says. (refl, refl);
}

-- ---- one end and its peer

-- the laws on lives, as one end sees them
pub record Between (role : Role) (start : ℕ) (said : ℕ × ℕ) (orders : Orders) (words : List ℕ) (mine theirs : Side) : Type 0 where
  pub my_live : word_at orders words (own_live role) ≡ live_word mine.state
  pub my_gone : TellsGone (word_at orders words (own_gone role)) mine.retired mine.state
  pub their_live : word_at orders words (peer_live role) ≡ live_word theirs.state
  pub their_gone : TellsGone (word_at orders words (peer_gone role)) theirs.retired theirs.state
  pub left_order : word_at orders words LeftOrder ≡ said.0
  pub right_order : word_at orders words RightOrder ≡ said.1
  pub my_sight : SightLawful start mine theirs
  pub their_sight : SightLawful start theirs mine
  pub not_both : mine.saw ≡ true → theirs.saw ≡ true → ⊥
  pub reads : StreamLawful theirs mine
  pub writes : StreamLawful mine theirs
  pub my_orders : OrdersGive said mine.trail
  pub their_orders : OrdersGive said theirs.trail
  pub my_misled : SaysOrders said orders → mine.misled ≡ false
  pub their_misled : SaysOrders said orders → theirs.misled ≡ false

pub as_server : (core : Core) → LifeLawful core → Between Server core.start core.said core.orders core.words core.server core.client
as_server core h = record {
  my_live = h.server_words.live;
  my_gone = h.server_words.gone;
  their_live = h.client_words.live;
  their_gone = h.client_words.gone;
  left_order = h.left_order;
  right_order = h.right_order;
  my_sight = h.server_sight;
  their_sight = h.client_sight;
  not_both = λ a b. h.not_both_saw (a, b);
  reads = h.left;
  writes = h.right;
  my_orders = h.server_orders;
  their_orders = h.client_orders;
  my_misled = λ says. (h.none_misled says).0;
  their_misled = λ says. (h.none_misled says).1;
}

pub as_client : (core : Core) → LifeLawful core → Between Client core.start core.said core.orders core.words core.client core.server
as_client core h = record {
  my_live = h.client_words.live;
  my_gone = h.client_words.gone;
  their_live = h.server_words.live;
  their_gone = h.server_words.gone;
  left_order = h.left_order;
  right_order = h.right_order;
  my_sight = h.client_sight;
  their_sight = h.server_sight;
  not_both = λ a b. h.not_both_saw (b, a);
  reads = h.right;
  writes = h.left;
  my_orders = h.client_orders;
  their_orders = h.server_orders;
  my_misled = λ says. (h.none_misled says).1;
  their_misled = λ says. (h.none_misled says).0;
}

pub by_server : (core : Core) → Between Server core.start core.said core.orders core.words core.server core.client → core.server.state ≢ Fresh → LifeLawful core
by_server core b was_open = record {
  server_words = record { live = b.my_live; gone = b.my_gone };
  client_words = record { live = b.their_live; gone = b.their_gone };
  server_opened = was_open;
  left_order = b.left_order;
  right_order = b.right_order;
  server_sight = b.my_sight;
  client_sight = b.their_sight;
  not_both_saw = λ both. b.not_both both.0 both.1;
  left = b.reads;
  right = b.writes;
  server_orders = b.my_orders;
  client_orders = b.their_orders;
  none_misled = λ says. (b.my_misled says, b.their_misled says);
}

pub by_client : (core : Core) → Between Client core.start core.said core.orders core.words core.client core.server → core.server.state ≢ Fresh → LifeLawful core
by_client core b was_open = record {
  server_words = record { live = b.their_live; gone = b.their_gone };
  client_words = record { live = b.my_live; gone = b.my_gone };
  server_opened = was_open;
  left_order = b.left_order;
  right_order = b.right_order;
  server_sight = b.their_sight;
  client_sight = b.my_sight;
  not_both_saw = λ both. b.not_both both.1 both.0;
  left = b.writes;
  right = b.reads;
  server_orders = b.their_orders;
  client_orders = b.my_orders;
  none_misled = λ says. (b.their_misled says, b.my_misled says);
}

-- ---- a begin

begins_between : (role : Role) (start : ℕ) (said : ℕ × ℕ) (orders : Orders) (words : List ℕ) (mine theirs : Side) (call : Call) (payload : List ℕ) →
    Between role start said orders words mine theirs → Between role start said orders words (begins mine call payload) theirs
begins_between role start said orders words mine theirs call payload b = record {
  my_live = b.my_live;
  my_gone = b.my_gone;
  their_live = b.their_live;
  their_gone = b.their_gone;
  left_order = b.left_order;
  right_order = b.right_order;
  my_sight = record { saw = b.my_sight.saw; seen = λ e. absurd (false≢true e); later = tt };
  their_sight = record { saw = b.their_sight.saw; seen = b.their_sight.seen; later = b.their_sight.later };
  not_both = b.not_both;
  reads = record { shut = b.reads.shut; all = b.reads.all; ended = b.reads.ended };
  writes = record { shut = b.writes.shut; all = b.writes.all; ended = b.writes.ended };
  my_orders = tt;
  their_orders = b.their_orders;
  my_misled = b.my_misled;
  their_misled = b.their_misled;
}

pub life_begun : (core : Core) (who : Role) (call : Call) (payload : List ℕ) → LifeLawful core → LifeLawful (begun core who call payload)
life_begun core Server call payload h = by_server (begun core Server call payload) (begins_between Server core.start core.said core.orders core.words core.server core.client call payload (as_server core h)) h.server_opened
life_begun core Client call payload h = by_client (begun core Client call payload) (begins_between Client core.start core.said core.orders core.words core.client core.server call payload (as_client core h)) h.server_opened
