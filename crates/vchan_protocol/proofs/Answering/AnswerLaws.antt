-- An answer tells what its call moved, and comes if and only if its cause is there.
use Rattle.std.proofs.Common.{◌≡◌, ◌≢◌, ℕ, ◌==◌, ◌<◌, ◌≤◌, min, not, Bool, Option, Some, None, IsSomeAnd, List, ◌∷◌, length, subst, sym, ap, ◌∙◌, arith, zero-add}
use Rattle.std.specs.Prelude.{◌↔◌}
use Rattle.vchan_protocol.specs.declared.op.Op.{Op}
use Rattle.vchan_protocol.specs.declared.op.PastEvent.{PastEvent}
use Rattle.vchan_protocol.specs.declared.call.Answer.{Answer}
use Rattle.vchan_protocol.specs.declared.call.Answer.TheVariants.{Wrote, Full, NoRoom, Got, Empty, Short, Ready, Space, BadOrders, Event, NotYet, Gone, PeerGone as IsGone}
use Rattle.vchan_protocol.specs.declared.call.Call.{Call}
use Rattle.vchan_protocol.specs.declared.call.Call.TheVariants.{Write, Send, Read, Recv, Drain, DataReady, BufferSpace, Connect, Close, TakeEvent, Retire, PeerGone}
use Rattle.vchan_protocol.specs.declared.side.Side.{Side}
use Rattle.vchan_protocol.specs.declared.side.Begun.{Begun}
use Rattle.vchan_protocol.specs.Table.Plan.{Plan, GoesOn, Leads, answers, after}
use Rattle.vchan_protocol.specs.Table.Ends.{Standing}
use Rattle.vchan_protocol.specs.Table.Calls.{plan_of, Trace}
use Rattle.vchan_protocol.specs.History.Core.{begun_standing, count_stored, bytes_loaded, plan_left, op_next, made}
use Rattle.vchan_protocol.specs.Honest.RingLaw.{CallLawful}
use Rattle.vchan_protocol.specs.Answering.Loads.{Pair, Loads, loads_of, last_pair, first_of}
use Rattle.vchan_protocol.specs.Answering.Causes.{FoundNone, SayOrders, room_at, waiting_at, TellsWord, Cause, WriteCause, SendCause, ReadCause, RecvCause, DrainCause, ConnectCause, write_closed, wrote_none, write_full, wrote_some, send_closed, send_no_room, sent_all, read_got, read_closed, read_empty, recv_got, recv_closed, recv_short, drain_got, drain_all_read, drain_not_yet, drain_peer_gone, connect_agrees, connect_refused}
use Rattle.vchan_protocol.specs.Answering.AnswerLaw.{Transfer, transfer_of, transfer_told, ring_writes}
use Rattle.vchan_protocol.specs.OneEnd.EndingLaw.{has_noticed}
use Rattle.vchan_protocol.proofs.Table.PlanLaws.{Leads_more}
use Rattle.vchan_protocol.proofs.Honest.EndSteps.{InLawful, in_lawful}
use Rattle.vchan_protocol.proofs.Answering.AnswerTrails.{deeds_along, Comes_Leads, loads_deeds, stored_deeds, loaded_deeds, others_deeds, noticed_deeds}
use Rattle.vchan_protocol.proofs.Answering.AnswerCauses.{Answers, NoticesEnd, nothing_done, call_answers}

-- ---- what a whole call comes to

comes_to : (e : Standing) (call : Call) (events : List PastEvent) (answer : Answer) → Trace e call events answer → Answers e call (deeds_along e nothing_done events) answer
comes_to e call events answer led = Comes_Leads (Answers e call) e nothing_done (plan_of e call) events answer (call_answers e call) led

abbrev transfer : ℕ → ℕ → List Op → Transfer
transfer stored loaded others = record { stored = stored; loaded = loaded; others = others }

pub tells_transfer : (e : Standing) (call : Call) (events : List PastEvent) (answer : Answer) → Trace e call events answer → transfer_of events ≡ transfer_told e answer
tells_transfer e call events answer led =
    let stored : count_stored events ≡ (deeds_along e nothing_done events).stored = sym (stored_deeds e nothing_done events ∙ zero-add (count_stored events)) in
    let loaded : length (bytes_loaded events) ≡ (deeds_along e nothing_done events).loaded = sym (loaded_deeds e nothing_done events ∙ zero-add (length (bytes_loaded events))) in
    let others : ring_writes events ≡ (deeds_along e nothing_done events).others = sym (others_deeds e nothing_done events) in
    same (count_stored events) _ (length (bytes_loaded events)) _ (ring_writes events) _ stored loaded others ∙ (comes_to e call events answer led).transfer
  where
    same : (s s' l l' : ℕ) (o o' : List Op) → s ≡ s' → l ≡ l' → o ≡ o' → transfer s l o ≡ transfer s' l' o'
    same s s' l l' o o' p q r = λ i. transfer (p i) (q i) (r i)

pub has_cause : (e : Standing) (call : Call) (events : List PastEvent) (answer : Answer) → Trace e call events answer → Cause e call (loads_of e events) answer
has_cause e call events answer led =
    subst (λ (l : Loads). Cause e call l answer) (loads_deeds e nothing_done events) (comes_to e call events answer led).cause

-- an answer that ends a stream comes only if the end has noticed its peer's end
pub notices_end : (e : Standing) (call : Call) (events : List PastEvent) (answer : Answer) → Trace e call events answer → NoticesEnd e.state (has_noticed e events) answer
notices_end e call events answer led =
    subst (λ (b : Bool). NoticesEnd e.state b answer) (noticed_deeds e nothing_done events) (comes_to e call events answer led).notices

-- ---- one answer a cause

-- a word is not at once 0 and not 0
apart : (word : Option ℕ) → word ≡ Some 0 → IsSomeAnd word (λ value. value ≢ 0) → ⊥
apart None zero other = other
apart (Some value) zero other = let is : value ≡ 0 = cc in other is

-- there is one last pair
same_pair : (word : Option Pair) (one two : Pair) → word ≡ Some one → word ≡ Some two → one ≡ two
same_pair word one two p q = cc

same_number : (word : Option ℕ) (one two : ℕ) → word ≡ Some one → word ≡ Some two → one ≡ two
same_number word one two p q = cc

-- what holds of the last pair holds of each pair that is it
at_pair : (P : Pair → Type 0) (word : Option Pair) (one two : Pair) → word ≡ Some one → word ≡ Some two → P two → P one
at_pair P word one two p q h = subst P (sym (same_pair word one two p q)) h

-- two answers that tell the last pair are one
one_told : (told : Pair → Answer) (word : Option Pair) (one two : Pair) (a b : Answer) → word ≡ Some one → word ≡ Some two → a ≡ told one → b ≡ told two → a ≡ b
one_told told word one two a b p q is is' = is ∙ ap told (same_pair word one two p q) ∙ sym is'

one_word : (word : Option ℕ) (told : ℕ → Answer) (a b : Answer) → TellsWord word told a → TellsWord word told b → a ≡ b
one_word None told a b h k = absurd h
one_word (Some value) told a b h k = h ∙ sym k

one_last : (word : Option Pair) (told : Pair → Answer) (a b : Answer) → IsSomeAnd word (λ last. a ≡ told last) → IsSomeAnd word (λ last. b ≡ told last) → a ≡ b
one_last None told a b h k = absurd h
one_last (Some value) told a b h k = h ∙ sym k

first_is : (pairs : List Pair) (last : Pair) (older : List Pair) → pairs ≡ last ∷ older → first_of pairs ≡ Some last
first_is pairs last older is = ap first_of is

module _ (e : Standing) (n : ℕ) (l : Loads) (a b : Answer) where
  write_one : WriteCause e n l a → WriteCause e n l b → a ≡ b
  write_one (write_closed shut is) (write_closed shut' is') = is ∙ sym is'
  write_one (write_closed shut is) (wrote_none alive' none' is') = absurd (apart l.live shut alive')
  write_one (write_closed shut is) (write_full last' at' alive' some' full' is') = absurd (apart l.live shut alive')
  write_one (write_closed shut is) (wrote_some last' at' alive' some' fits' is') = absurd (apart l.live shut alive')
  write_one (wrote_none alive none is) (write_closed shut' is') = absurd (apart l.live shut' alive)
  write_one (wrote_none alive none is) (wrote_none alive' none' is') = is ∙ sym is'
  write_one (wrote_none alive none is) (write_full last' at' alive' some' full' is') = absurd (omega (arith, none, some'))
  write_one (wrote_none alive none is) (wrote_some last' at' alive' some' fits' is') = absurd (omega (arith, none, some'))
  write_one (write_full last at alive some full is) (write_closed shut' is') = absurd (apart l.live shut' alive)
  write_one (write_full last at alive some full is) (wrote_none alive' none' is') = absurd (omega (arith, none', some))
  write_one (write_full last at alive some full is) (write_full last' at' alive' some' full' is') =
      one_told (λ (pair : Pair). Full pair.prod pair.cons) (last_pair l) last last' a b at at' is is'
  write_one (write_full last at alive some full is) (wrote_some last' at' alive' some' fits' is') =
      let fits = at_pair (λ (pair : Pair). 0 < room_at e pair) (last_pair l) last last' at at' fits' in absurd (omega (arith, full, fits))
  write_one (wrote_some last at alive some fits is) (write_closed shut' is') = absurd (apart l.live shut' alive)
  write_one (wrote_some last at alive some fits is) (wrote_none alive' none' is') = absurd (omega (arith, none', some))
  write_one (wrote_some last at alive some fits is) (write_full last' at' alive' some' full' is') =
      let full = at_pair (λ (pair : Pair). room_at e pair ≡ 0) (last_pair l) last last' at at' full' in absurd (omega (arith, full, fits))
  write_one (wrote_some last at alive some fits is) (wrote_some last' at' alive' some' fits' is') =
      one_told (λ (pair : Pair). Wrote (min n (room_at e pair))) (last_pair l) last last' a b at at' is is'

  send_one : SendCause e n l a → SendCause e n l b → a ≡ b
  send_one (send_closed shut is) (send_closed shut' is') = is ∙ sym is'
  send_one (send_closed shut is) (send_no_room last' at' alive' less' is') = absurd (apart l.live shut alive')
  send_one (send_closed shut is) (sent_all last' at' alive' enough' is') = absurd (apart l.live shut alive')
  send_one (send_no_room last at alive less is) (send_closed shut' is') = absurd (apart l.live shut' alive)
  send_one (send_no_room last at alive less is) (send_no_room last' at' alive' less' is') =
      one_told (λ (pair : Pair). NoRoom pair.prod pair.cons) (last_pair l) last last' a b at at' is is'
  send_one (send_no_room last at alive less is) (sent_all last' at' alive' enough' is') =
      let enough = at_pair (λ (pair : Pair). n ≤ room_at e pair) (last_pair l) last last' at at' enough' in absurd (omega (arith, less, enough))
  send_one (sent_all last at alive enough is) (send_closed shut' is') = absurd (apart l.live shut' alive)
  send_one (sent_all last at alive enough is) (send_no_room last' at' alive' less' is') =
      let less = at_pair (λ (pair : Pair). room_at e pair < n) (last_pair l) last last' at at' less' in absurd (omega (arith, less, enough))
  send_one (sent_all last at alive enough is) (sent_all last' at' alive' enough' is') = is ∙ sym is'

  read_one : ReadCause e n l a → ReadCause e n l b → a ≡ b
  read_one (read_got last at some is) (read_got last' at' some' is') =
      one_told (λ (pair : Pair). Got (min n (waiting_at e pair))) (last_pair l) last last' a b at at' is is'
  read_one (read_got last at some is) (read_closed last' at' none' shut' is') =
      let none = at_pair (λ (pair : Pair). waiting_at e pair ≡ 0) (last_pair l) last last' at at' none' in absurd (omega (arith, some, none))
  read_one (read_got last at some is) (read_empty last' at' none' alive' is') =
      let none = at_pair (λ (pair : Pair). waiting_at e pair ≡ 0) (last_pair l) last last' at at' none' in absurd (omega (arith, some, none))
  read_one (read_closed last at none shut is) (read_got last' at' some' is') =
      let some = at_pair (λ (pair : Pair). 0 < waiting_at e pair) (last_pair l) last last' at at' some' in absurd (omega (arith, some, none))
  read_one (read_closed last at none shut is) (read_closed last' at' none' shut' is') = is ∙ sym is'
  read_one (read_closed last at none shut is) (read_empty last' at' none' alive' is') = absurd (apart l.live shut alive')
  read_one (read_empty last at none alive is) (read_got last' at' some' is') =
      let some = at_pair (λ (pair : Pair). 0 < waiting_at e pair) (last_pair l) last last' at at' some' in absurd (omega (arith, some, none))
  read_one (read_empty last at none alive is) (read_closed last' at' none' shut' is') = absurd (apart l.live shut' alive)
  read_one (read_empty last at none alive is) (read_empty last' at' none' alive' is') =
      one_told (λ (pair : Pair). Empty pair.prod pair.cons) (last_pair l) last last' a b at at' is is'

  recv_one : RecvCause e n l a → RecvCause e n l b → a ≡ b
  recv_one (recv_got last at enough is) (recv_got last' at' enough' is') = is ∙ sym is'
  recv_one (recv_got last at enough is) (recv_closed last' at' less' shut' is') =
      let less = at_pair (λ (pair : Pair). waiting_at e pair < n) (last_pair l) last last' at at' less' in absurd (omega (arith, less, enough))
  recv_one (recv_got last at enough is) (recv_short last' at' less' alive' is') =
      let less = at_pair (λ (pair : Pair). waiting_at e pair < n) (last_pair l) last last' at at' less' in absurd (omega (arith, less, enough))
  recv_one (recv_closed last at less shut is) (recv_got last' at' enough' is') =
      let enough = at_pair (λ (pair : Pair). n ≤ waiting_at e pair) (last_pair l) last last' at at' enough' in absurd (omega (arith, less, enough))
  recv_one (recv_closed last at less shut is) (recv_closed last' at' less' shut' is') = is ∙ sym is'
  recv_one (recv_closed last at less shut is) (recv_short last' at' less' alive' is') = absurd (apart l.live shut alive')
  recv_one (recv_short last at less alive is) (recv_got last' at' enough' is') =
      let enough = at_pair (λ (pair : Pair). n ≤ waiting_at e pair) (last_pair l) last last' at at' enough' in absurd (omega (arith, less, enough))
  recv_one (recv_short last at less alive is) (recv_closed last' at' less' shut' is') = absurd (apart l.live shut' alive)
  recv_one (recv_short last at less alive is) (recv_short last' at' less' alive' is') =
      one_told (λ (pair : Pair). Short pair.prod pair.cons) (last_pair l) last last' a b at at' is is'

  -- if the last look found a byte, some look did
  found_some : (pairs : List Pair) (last : Pair) (older : List Pair) → pairs ≡ last ∷ older → 0 < waiting_at e last → FoundNone e pairs → ⊥
  found_some pairs last older is some none = let nothing = (subst (λ (ps : List Pair). FoundNone e ps) is none).0 in omega (arith, some, nothing)

  drain_one : DrainCause e n l a → DrainCause e n l b → a ≡ b
  drain_one (drain_got last older at none unread some is) (drain_got last' older' at' none' unread' some' is') =
      one_told (λ (pair : Pair). Got (min n (waiting_at e pair))) (last_pair l) last last' a b (first_is l.pairs last older at) (first_is l.pairs last' older' at') is is'
  drain_one (drain_got last older at none unread some is) (drain_all_read all' is') = absurd (unread all')
  drain_one (drain_got last older at none unread some is) (drain_not_yet last' at' none' unread' here' is') = absurd (found_some l.pairs last older at some none')
  drain_one (drain_got last older at none unread some is) (drain_peer_gone last' at' none' unread' gone' is') = absurd (found_some l.pairs last older at some none')
  drain_one (drain_all_read all is) (drain_got last' older' at' none' unread' some' is') = absurd (unread' all)
  drain_one (drain_all_read all is) (drain_all_read all' is') = is ∙ sym is'
  drain_one (drain_all_read all is) (drain_not_yet last' at' none' unread' here' is') = absurd (unread' all)
  drain_one (drain_all_read all is) (drain_peer_gone last' at' none' unread' gone' is') = absurd (unread' all)
  drain_one (drain_not_yet last at none unread here is) (drain_got last' older' at' none' unread' some' is') = absurd (found_some l.pairs last' older' at' some' none)
  drain_one (drain_not_yet last at none unread here is) (drain_all_read all' is') = absurd (unread all')
  drain_one (drain_not_yet last at none unread here is) (drain_not_yet last' at' none' unread' here' is') =
      one_told (λ (pair : Pair). NotYet pair.prod pair.cons) (last_pair l) last last' a b at at' is is'
  drain_one (drain_not_yet last at none unread here is) (drain_peer_gone last' at' none' unread' gone' is') = absurd (apart l.gone here gone')
  drain_one (drain_peer_gone last at none unread gone is) (drain_got last' older' at' none' unread' some' is') = absurd (found_some l.pairs last' older' at' some' none)
  drain_one (drain_peer_gone last at none unread gone is) (drain_all_read all' is') = absurd (unread all')
  drain_one (drain_peer_gone last at none unread gone is) (drain_not_yet last' at' none' unread' here' is') = absurd (apart l.gone here' gone)
  drain_one (drain_peer_gone last at none unread gone is) (drain_peer_gone last' at' none' unread' gone' is') =
      one_told (λ (pair : Pair). IsGone pair.prod pair.cons) (last_pair l) last last' a b at at' is is'

module _ (e : Standing) (l : Loads) (a b : Answer) where
  say_both : (left right left' right' : ℕ) → l.left_order ≡ Some left → l.right_order ≡ Some right → l.left_order ≡ Some left' → l.right_order ≡ Some right' → SayOrders e left' right' → SayOrders e left right
  say_both left right left' right' p q p' q' says = (same_number l.left_order left left' p p' ∙ says.0, same_number l.right_order right right' q q' ∙ says.1)

  connect_one : ConnectCause e l a → ConnectCause e l b → a ≡ b
  connect_one (connect_agrees left right p q says is) (connect_agrees left' right' p' q' says' is') = is ∙ sym is'
  connect_one (connect_agrees left right p q says is) (connect_refused left' right' p' q' differ' is') = absurd (differ' (say_both left' right' left right p' q' p q says))
  connect_one (connect_refused left right p q differ is) (connect_agrees left' right' p' q' says' is') = absurd (differ (say_both left right left' right' p q p' q' says'))
  connect_one (connect_refused left right p q differ is) (connect_refused left' right' p' q' differ' is') =
      is ∙ ap (λ (x : ℕ). BadOrders x right) (same_number l.left_order left left' p p') ∙ ap (λ (y : ℕ). BadOrders left' y) (same_number l.right_order right right' q q') ∙ sym is'

  -- what was loaded is the cause of only one answer
  one_answer : (call : Call) → Cause e call l a → Cause e call l b → a ≡ b
  one_answer (Write n) h k = write_one e n l a b h k
  one_answer (Send n) h k = send_one e n l a b h k
  one_answer (Read n) h k = read_one e n l a b h k
  one_answer (Recv n) h k = recv_one e n l a b h k
  one_answer (Drain n) h k = drain_one e n l a b h k
  one_answer DataReady h k = one_last (last_pair l) (λ (last : Pair). Ready (waiting_at e last)) a b h k
  one_answer BufferSpace h k = one_last (last_pair l) (λ (last : Pair). Space (room_at e last)) a b h k
  one_answer Connect h k = connect_one h k
  one_answer Close h k = h ∙ sym k
  one_answer TakeEvent h k = one_word l.pending (λ (pending : ℕ). Event (not (pending == 0))) a b h k
  one_answer PeerGone h k = one_word l.gone (λ (gone : ℕ). Gone (not (gone == 0))) a b h k
  one_answer Retire h k = h ∙ sym k

-- ---- the laws

pub each_cause : (e : Standing) (call : Call) (events : List PastEvent) (answer : Answer) → Trace e call events answer → (other : Answer) → (answer ≡ other) ↔ Cause e call (loads_of e events) other
each_cause e call events answer led other = (
  λ is. subst (λ (a : Answer). Cause e call (loads_of e events) a) is (has_cause e call events answer led),
  λ cause. one_answer e (loads_of e events) answer other call (has_cause e call events answer led) cause,
)

pub each_trace : (s : Side) (b : Begun) (taken : ℕ) (answer : Answer) → CallLawful s → s.call ≡ Some b → GoesOn (plan_left s) → after (plan_left s) taken ≡ answers answer →
    Trace (begun_standing s b) b.call (made s (op_next s) taken).trail answer
each_trace s b taken answer lawful is more ends =
    let i : InLawful s = in_lawful s lawful more in
    let same : i.begun ≡ b = one_begun s.call i.begun b i.is is in
    subst (λ (c : Begun). Trace (begun_standing s c) c.call (made s (op_next s) taken).trail answer) same
    (subst (λ (p : Plan). Leads (plan_of (begun_standing s i.begun) i.begun.call) (made s (op_next s) taken).trail p) ends
    (Leads_more (plan_of (begun_standing s i.begun) i.begun.call) s.trail (plan_left s) taken more i.led))
  where
    one_begun : (call : Option Begun) (one two : Begun) → call ≡ Some one → call ≡ Some two → one ≡ two
    one_begun call one two p q = cc
