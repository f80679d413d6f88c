-- Each whole call, on a page that tells its lists, is the call on lists.
use Rattle.std.proofs.Common.{◌≡◌, ℕ, ◌+◌, ◌%◌, ◌^◌, ◌<◌, ◌==◌, nat_lt, ◌&&◌, not, min, Bool, true, false, cond, if◌then◌else◌, List, length, refl, subst, sym, ap, ◌∙◌, arith}
use Rattle.std.proofs.lemmas.Bool.{false≢true, eqb-true, eq-eqb, ltb-false}
use Rattle.ring_words.specs.declared.page.Role.{Role}
use Rattle.ring_words.specs.declared.page.Role.TheVariants.{Server, Client}
use Rattle.ring_words.specs.declared.page.WordName.TheVariants.{LeftOrder, RightOrder}
use Rattle.vchan_protocol.specs.declared.op.Op.TheVariants.{Load}
use Rattle.vchan_protocol.specs.declared.call.Answer.{Answer}
use Rattle.vchan_protocol.specs.declared.call.Answer.TheVariants.{Wrote, Full, Sent, NoRoom, Got, Empty, Short, PeerClosed, Ready, Space, BadOrders, Done, Event, NotYet, AllRead, Gone}
use Rattle.vchan_protocol.specs.declared.call.Bit.TheVariants.{Written, Consumed}
use Rattle.vchan_protocol.specs.declared.call.Call.{Call}
use Rattle.vchan_protocol.specs.declared.call.Call.TheVariants.{Write, Send, Read, Recv, Drain, DataReady, BufferSpace, Connect, Close, TakeEvent, Retire, PeerGone}
use Rattle.vchan_protocol.specs.declared.call.EndState.{EndState}
use Rattle.vchan_protocol.specs.declared.call.EndState.TheVariants.{Fresh, Open, Shut}
use Rattle.vchan_protocol.specs.Table.Plan.{Plan, does, answers}
use Rattle.vchan_protocol.specs.Table.Ends.{Standing, peer_live, low8, low16, free_at, ready_at}
use Rattle.vchan_protocol.specs.Table.Calls.{write, write_open, write_looked, send, send_open, send_looked, read, read_looked, read_live, recv, recv_looked, recv_live, drain, drain_found, drain_second, drain_live, drain_further, drain_gone, drain_last, connect, connect_right, connect_looked, close, retire, retire_shut, put, take as take_plan, ask, look_read, look_write, plan_of, payload_of, IsAllowed}
use Rattle.vchan_protocol.specs.History.Core.{is_shut}
use Rattle.vchan_protocol.specs.Honest.RingLaw.{AreBytes}
use Rattle.vchan_protocol.specs.Lists.ListCall.{ListEnd, ChannelLists, Outcome, end_of, with_end, index, avail, free, only, sent_out, got_in, of_written, of_read, list_call, peer_is_shut}
use Rattle.vchan_protocol.proofs.Lists.ListTells.{Told}
use Rattle.vchan_protocol.proofs.Lists.ListPieces.{run, standing_by, Begins, after_answers, calm_after, ends_only, ends_if, ends_cond, ends_true, ends_load, ends_ask, ends_look_read, ends_look_write, ends_live, ends_gone, free_is, avail_is, ends_put, ends_take, after_close, after_retire, ends_open, ends_swap}
use Rattle.vchan_protocol.proofs.Lists.ListPieces.{Gives, Ends, After}
use Rattle.vchan_protocol.specs.History.Peer.{peer}
use Rattle.vchan_protocol.specs.Lists.ListLaw.{count_got}

module _ (who : Role) (channel : ChannelLists) (theirs : Told) (payload : List ℕ) (b : Begins who channel) where
  -- the words of the pieces, at these arguments
  abbrev e : Standing
  e = standing_by who channel

  abbrev Comes : Plan → Outcome → Type 0
  Comes plan outcome = Ends who channel theirs payload b plan outcome

  only_is : (answer : Answer) → count_got answer ≡ 0 → Comes (answers answer) (only channel answer)
  only_is = ends_only who channel theirs payload b

  either : (test : Bool) (p q : Plan) (outcome : Outcome) → Comes p outcome → Comes q outcome → Comes (cond test p q) outcome
  either = ends_if who channel theirs payload b

  as_known : (test known : Bool) (p q : Plan) (one two : Outcome) → test ≡ known → (known ≡ true → Comes p one) → (known ≡ false → Comes q two) → Comes (cond test p q) (cond known one two)
  as_known = ends_cond who channel theirs payload b

  abbrev found_cons : ℕ
  found_cons = index channel.start (end_of channel (peer who)).got

  abbrev found_prod : ℕ
  found_prod = index channel.start (end_of channel (peer who)).sent

  -- a look that may find too little, asks, and looks again
  looks_write : (n : ℕ) (looked : ℕ → Plan) (outcome : Outcome) → Comes (looked found_cons) outcome →
      Comes (look_write e (λ cons. if nat_lt (free_at e cons) n then ask e Consumed (look_write e looked) else looked cons)) outcome
  looks_write n looked outcome on =
      ends_look_write who channel theirs payload b (λ cons. if nat_lt (free_at e cons) n then ask e Consumed (look_write e looked) else looked cons) outcome
      (either (nat_lt (free_at e found_cons) n) _ _ outcome (ends_ask who channel theirs payload b Consumed _ outcome (ends_look_write who channel theirs payload b looked outcome on)) on)

  looks_read : (n : ℕ) (looked : ℕ → Plan) (outcome : Outcome) → Comes (looked found_prod) outcome →
      Comes (look_read e (λ prod. if nat_lt (ready_at e prod) n then ask e Written (look_read e looked) else looked prod)) outcome
  looks_read n looked outcome on =
      ends_look_read who channel theirs payload b (λ prod. if nat_lt (ready_at e prod) n then ask e Written (look_read e looked) else looked prod) outcome
      (either (nat_lt (ready_at e found_prod) n) _ _ outcome (ends_ask who channel theirs payload b Written _ outcome (ends_look_read who channel theirs payload b looked outcome on)) on)

  -- ---- writing

  write_looked_row : (n : ℕ) → length payload ≡ n → AreBytes payload → Comes (write_looked e n found_cons)
      (if n == 0 then only channel (Wrote 0) else (if free channel who == 0 then only channel (of_written Full channel who) else sent_out channel who payload (min n (free channel who)) Wrote))
  unfolding write_looked
  write_looked_row n pays bytes =
      subst (λ (f : ℕ). Comes (if n == 0 then answers (Wrote 0) else (if f == 0 then answers (Full e.prod found_cons) else put e (min n f) (answers (Wrote (min n f)))))
      (if n == 0 then only channel (Wrote 0) else (if free channel who == 0 then only channel (of_written Full channel who) else sent_out channel who payload (min n (free channel who)) Wrote)))
      (sym (free_is who channel theirs payload b))
      (as_known (n == 0) (n == 0) _ _ _ _ refl (λ _. only_is (Wrote 0) refl)
      (λ _. as_known (free channel who == 0) (free channel who == 0) _ _ _ _ refl (λ _. only_is (of_written Full channel who) refl)
      (λ _. ends_put who channel theirs payload b (min n (free channel who)) Wrote (omega arith) (omega (arith, pays)) bytes refl)))

  write_row : (n : ℕ) → length payload ≡ n → AreBytes payload → Comes (write e n) (list_call channel who (Write n) payload)
  unfolding write write_open
  write_row n pays bytes =
      ends_live who channel theirs payload b _ _ _ _ (λ _. only_is PeerClosed refl)
      (λ _. looks_write n (write_looked e n) _ (write_looked_row n pays bytes))

  send_looked_row : (n : ℕ) → length payload ≡ n → AreBytes payload → Comes (send_looked e n found_cons)
      (if nat_lt (free channel who) n then only channel (of_written NoRoom channel who) else sent_out channel who payload n Sent)
  unfolding send_looked
  send_looked_row n pays bytes =
      as_known _ (nat_lt (free channel who) n) _ _ _ _ (ap (λ (f : ℕ). nat_lt f n) (free_is who channel theirs payload b)) (λ _. only_is (of_written NoRoom channel who) refl)
      (λ enough. ends_put who channel theirs payload b n Sent (ltb-false (free channel who) n enough) (omega (arith, pays)) bytes refl)

  send_row : (n : ℕ) → length payload ≡ n → AreBytes payload → Comes (send e n) (list_call channel who (Send n) payload)
  unfolding send send_open
  send_row n pays bytes =
      ends_live who channel theirs payload b _ _ _ _ (λ _. only_is PeerClosed refl)
      (λ _. looks_write n (send_looked e n) _ (send_looked_row n pays bytes))

  -- ---- reading

  -- nothing waits
  quiet_row : (answer : Answer) → count_got answer ≡ 0 →
      Comes (does (Load (peer_live who)) (λ live. if low8 live == 0 then answers PeerClosed else answers answer)) (if peer_is_shut channel who then only channel PeerClosed else only channel answer)
  quiet_row answer none = ends_live who channel theirs payload b _ _ _ _ (λ _. only_is PeerClosed refl) (λ _. only_is answer none)

  read_looked_row : (n : ℕ) → Comes (read_looked e n found_prod) (list_call channel who (Read n) payload)
  unfolding read_looked read_live
  read_looked_row n =
      subst (λ (a : ℕ). Comes (if a == 0 then read_live e found_prod else take_plan e (min n a) (answers (Got (min n a)))) (list_call channel who (Read n) payload)) (sym (avail_is who channel theirs payload b))
      (as_known (avail channel who == 0) (avail channel who == 0) _ _ _ _ refl (λ _. quiet_row (of_read Empty channel who) refl)
      (λ _. ends_take who channel theirs payload b (min n (avail channel who)) (omega arith)))

  read_row : (n : ℕ) → Comes (read e n) (list_call channel who (Read n) payload)
  unfolding read
  read_row n = looks_read n (read_looked e n) _ (read_looked_row n)

  recv_looked_row : (n : ℕ) → Comes (recv_looked e n found_prod) (list_call channel who (Recv n) payload)
  unfolding recv_looked recv_live
  recv_looked_row n =
      as_known _ (nat_lt (avail channel who) n) _ _ _ _ (ap (λ (a : ℕ). nat_lt a n) (avail_is who channel theirs payload b)) (λ _. quiet_row (of_read Short channel who) refl)
      (λ enough. ends_take who channel theirs payload b n (ltb-false (avail channel who) n enough))

  recv_row : (n : ℕ) → Comes (recv e n) (list_call channel who (Recv n) payload)
  unfolding recv
  recv_row n = looks_read n (recv_looked e n) _ (recv_looked_row n)

  -- a drain's look: it finds what waits, or goes on
  found_row : (n : ℕ) (next : Plan) (quiet : Outcome) → (avail channel who ≡ 0 → Comes next quiet) →
      Comes (drain_found e n found_prod next) (if avail channel who == 0 then quiet else got_in channel who (min n (avail channel who)))
  found_row n next quiet on =
      subst (λ (a : ℕ). Comes (if a == 0 then next else take_plan e (min n a) (answers (Got (min n a)))) (if avail channel who == 0 then quiet else got_in channel who (min n (avail channel who)))) (sym (avail_is who channel theirs payload b))
      (as_known (avail channel who == 0) (avail channel who == 0) _ _ _ _ refl (λ none. on (eqb-true (avail channel who) 0 none))
      (λ _. ends_take who channel theirs payload b (min n (avail channel who)) (omega arith)))

  -- a look that finds nothing goes on
  nothing_row : (n : ℕ) (next : Plan) (quiet : Outcome) → avail channel who ≡ 0 → Comes next quiet → Comes (drain_found e n found_prod next) quiet
  nothing_row n next quiet none on =
      ends_true who channel theirs payload b _ next _ quiet (ap (λ (a : ℕ). a == 0) (avail_is who channel theirs payload b ∙ none)) on

  -- nothing waits, and the peer is not shut: it has not retired
  gone_row : (n : ℕ) → (is_shut (end_of channel (peer who)).state ≡ false) → ((end_of channel (peer who)).retired ≡ true → (end_of channel (peer who)).state ≡ Shut) → Comes (drain_gone e n found_prod) (only channel (of_read NotYet channel who))
  unfolding drain_gone
  gone_row n alive shut = ends_gone who channel theirs payload b _ _ (go (end_of channel (peer who)).retired shut)
    where
      go : (retired : Bool) → (retired ≡ true → (end_of channel (peer who)).state ≡ Shut) →
          Comes (cond ((if retired then 1 else 0) == 0) (answers (NotYet found_prod e.cons)) (look_read e (drain_last e n))) (only channel (of_read NotYet channel who))
      go true shut = absurd (false≢true (sym alive ∙ ap is_shut (shut refl)))
      go false shut = only_is (of_read NotYet channel who) refl

  same_count : avail channel who ≡ 0 → (found_prod == e.cons) ≡ true
  same_count none = eq-eqb found_prod e.cons (ap (λ (n : ℕ). (channel.start + n) % 2 ^ 32) (omega (arith, none, b.read_low)))

  live_row : (n : ℕ) → avail channel who ≡ 0 → ((end_of channel (peer who)).retired ≡ true → (end_of channel (peer who)).state ≡ Shut) →
      Comes (drain_live e n found_prod) (if peer_is_shut channel who then only channel AllRead else only channel (of_read NotYet channel who))
  unfolding drain_live drain_further
  live_row n none shut =
      ends_live who channel theirs payload b _ _ _ _
      (λ _. ends_look_read who channel theirs payload b (drain_further e n) _ (ends_true who channel theirs payload b (found_prod == e.cons) _ (drain_found e n found_prod (drain_gone e n found_prod)) (only channel AllRead) (same_count none) (only_is AllRead refl)))
      (λ alive. gone_row n alive shut)

  drain_row : (n : ℕ) → ((end_of channel (peer who)).retired ≡ true → (end_of channel (peer who)).state ≡ Shut) → Comes (drain e n) (list_call channel who (Drain n) payload)
  unfolding drain drain_second
  drain_row n shut =
      ends_look_read who channel theirs payload b (λ prod. drain_found e n prod (ask e Written (look_read e (drain_second e n)))) _
      (found_row n (ask e Written (look_read e (drain_second e n))) (if peer_is_shut channel who then only channel AllRead else only channel (of_read NotYet channel who))
      (λ none. ends_ask who channel theirs payload b Written _ _ (ends_look_read who channel theirs payload b (drain_second e n) _ (nothing_row n (drain_live e n found_prod) _ none (live_row n none shut)))))

  -- ---- asking and telling

  ready_row : Comes (plan_of e DataReady) (list_call channel who DataReady payload)
  ready_row =
      ends_ask who channel theirs payload b Written _ _ (ends_look_read who channel theirs payload b (λ prod. answers (Ready (ready_at e prod))) _
      (subst (λ (a : ℕ). Comes (answers (Ready a)) (only channel (Ready (avail channel who)))) (sym (avail_is who channel theirs payload b)) (only_is (Ready (avail channel who)) refl)))

  space_row : Comes (plan_of e BufferSpace) (list_call channel who BufferSpace payload)
  space_row =
      ends_ask who channel theirs payload b Consumed _ _ (ends_look_write who channel theirs payload b (λ cons. answers (Space (free_at e cons))) _
      (subst (λ (f : ℕ). Comes (answers (Space f)) (only channel (Space (free channel who)))) (sym (free_is who channel theirs payload b)) (only_is (Space (free channel who)) refl)))

  peer_row : Comes (plan_of e PeerGone) (list_call channel who PeerGone payload)
  peer_row = ends_gone who channel theirs payload b _ _ (go (end_of channel (peer who)).retired)
    where
      go : (retired : Bool) → Comes (answers (Gone (not ((if retired then 1 else 0) == 0)))) (only channel (Gone retired))
      go true = only_is (Gone true) refl
      go false = only_is (Gone false) refl

  event_row : Comes (plan_of e TakeEvent) (list_call channel who TakeEvent payload)
  event_row =
      ends_swap who channel theirs payload b _ (list_call channel who TakeEvent payload)
      (λ value. after_answers who channel theirs payload b (end_of channel who) (Event (not (value == 0))) (list_call channel who TakeEvent payload) (same who channel) tt)
    where
      same : (who : Role) (channel : ChannelLists) → channel ≡ with_end channel who (end_of channel who)
      same Server channel = refl
      same Client channel = refl

  -- ---- coming and going

  close_row : Comes (plan_of e Close) (list_call channel who Close payload)
  close_row words mine c =
      after_close who channel theirs payload b (end_of channel who) 0 (answers Done) (list_call channel who Close payload)
      (after_answers who channel theirs payload b (record (end_of channel who) { state = Shut }) Done (list_call channel who Close payload) refl refl) words mine
      (calm_after who channel theirs payload b words mine c)

  retire_row : Comes (retire e (end_of channel who).state) (list_call channel who Retire payload)
  retire_row words mine c = go (end_of channel who).state refl
    where
      it : ListEnd
      it = end_of channel who

      calm : After who channel theirs payload b (end_of channel who) 0 words mine
      calm = calm_after who channel theirs payload b words mine c

      closed : Gives who channel theirs payload b (list_call channel who Retire payload) (run channel.orders words mine (close e (retire_shut e)))
      closed =
          after_close who channel theirs payload b (end_of channel who) 0 (retire_shut e) (list_call channel who Retire payload)
          (after_retire who channel theirs payload b (record (end_of channel who) { state = Shut }) (list_call channel who Retire payload) refl refl refl) words mine calm

      go : (state : EndState) → (end_of channel who).state ≡ state → Gives who channel theirs payload b (list_call channel who Retire payload) (run channel.orders words mine (retire e state))
      go Fresh is = closed
      go Open is = closed
      go Shut is =
          after_retire who channel theirs payload b (end_of channel who) (list_call channel who Retire payload) is
          (ap (λ (state : EndState). with_end channel who (record (end_of channel who) { state = state; retired = true })) (sym is)) refl words mine calm

  connect_row : who ≡ Client → (end_of channel who).state ≡ Fresh → (channel.said.0 < 2 ^ 16) × (channel.said.1 < 2 ^ 16) → Comes (connect e) (list_call channel who Connect payload)
  unfolding connect connect_right
  connect_row client fresh fits =
      ends_load who channel theirs payload b LeftOrder channel.said.0 _ _ (λ words mine c. c.tells.left_order)
      (ends_load who channel theirs payload b RightOrder channel.said.1 _ _ (λ words mine c. c.tells.right_order)
      (subst (λ (l : ℕ). Comes (connect_looked e l (low16 channel.said.1)) (list_call channel who Connect payload)) (sym low_left)
      (subst (λ (r : ℕ). Comes (connect_looked e channel.said.0 r) (list_call channel who Connect payload)) (sym low_right)
      (as_known ((channel.said.0 == channel.orders.left.number) && (channel.said.1 == channel.orders.right.number)) _ _ _ _ _ refl
      (λ _. ends_open who channel theirs payload b _ client fresh refl refl) (λ _. only_is (BadOrders channel.said.0 channel.said.1) refl)))))
    where
      low_left : low16 channel.said.0 ≡ channel.said.0
      low_left = omega (arith, fits.0)

      low_right : low16 channel.said.1 ≡ channel.said.1
      low_right = omega (arith, fits.1)

  -- ---- every call

  may_connect : (who : Role) (state : EndState) → IsAllowed who state Connect → (who ≡ Client) × (state ≡ Fresh)
  may_connect Client Fresh may = (refl, refl)
  may_connect Client Open may = absurd may
  may_connect Client Shut may = absurd may
  may_connect Server state may = absurd may

  pub each_row : (call : Call) → IsAllowed who (end_of channel who).state call → length payload ≡ payload_of call → AreBytes payload → (channel.said.0 < 2 ^ 16) × (channel.said.1 < 2 ^ 16) →
      ((end_of channel (peer who)).retired ≡ true → (end_of channel (peer who)).state ≡ Shut) → Comes (plan_of e call) (list_call channel who call payload)
  each_row (Write n) may pays bytes fits shut = write_row n pays bytes
  each_row (Send n) may pays bytes fits shut = send_row n pays bytes
  each_row (Read n) may pays bytes fits shut = read_row n
  each_row (Recv n) may pays bytes fits shut = recv_row n
  each_row (Drain n) may pays bytes fits shut = drain_row n shut
  each_row DataReady may pays bytes fits shut = ready_row
  each_row BufferSpace may pays bytes fits shut = space_row
  each_row Connect may pays bytes fits shut = let is = may_connect who (end_of channel who).state may in connect_row is.0 is.1 fits
  each_row Close may pays bytes fits shut = close_row
  each_row TakeEvent may pays bytes fits shut = event_row
  each_row PeerGone may pays bytes fits shut = peer_row
  each_row Retire may pays bytes fits shut = retire_row
