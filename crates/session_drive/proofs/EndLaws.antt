-- A round of turns moves something, and the caller ends with what the service gives.
use Rattle.std.proofs.Common.{◌≡◌, ◌⊎◌, inl, inr, ℕ, ◌+◌, ◌*◌, ◌≤◌, Bool, true, false, List, length, Option, Some, None, refl, sym, ap, subst, ◌∙◌, arith}
use Rattle.std.specs.Prelude.{min, nat_lt, ℤ, pos}
use Rattle.std.proofs.lemmas.Int.{fits_signed_from_abs}
use Rattle.std.specs.Int.{w32}
use Rattle.std.specs.Int.RustNames.{FitsSigned}
use Rattle.std.specs.List.{flat_map}
use Rattle.std.proofs.lemmas.Bool.Decides.{nat_tests}
use Rattle.list_laws.specs.Lists.{IsPrefixOf}
use Rattle.list_laws.proofs.Prefixes.{prefix_length}
use Rattle.ring_words.specs.Page.{order_of}
use Rattle.ring_words.specs.declared.page.Role.TheVariants.{Server, Client}
use Rattle.ring_words.proofs.RingLaws.{size_within}
use Rattle.vchan_protocol.specs.Table.Ends.{written_ring}
use Rattle.vchan_protocol.specs.History.Core.{Core}
use Rattle.vchan_protocol.specs.Honest.Lawful.{Lawful}
use Rattle.vchan_protocol.specs.Lists.ListCall.{ChannelLists, free, lists_of}
use Rattle.qrexec_frame.specs.Messages.{written}
use Rattle.service_gate.specs.ServiceResult.{IsSmallCode}
use Rattle.service_gate.specs.Owing.{builtin_owes}
use Rattle.service_gate.proofs.EveryService.{small_codes}
use Rattle.service_gate.specs.declared.builtin.Builtin.{Builtin}
use Rattle.qrexec_data.specs.declared.outcome.Outcome.{Outcome}
use Rattle.qrexec_data.specs.declared.outcome.Outcome.TheVariants.{Done, Fault, Closed, Gone}
use Rattle.qrexec_data.specs.CallerSide as caller
use Rattle.qrexec_data.specs.CallerSide.{CallerState}
use Rattle.qrexec_data.specs.ServingSide as serving
use Rattle.qrexec_data.specs.ServingSide.{ServingState}
use Rattle.qrexec_data.specs.Replies.{AgreesWith}
use Rattle.qrexec_data.specs.Seeing.{Undecided, Exited, Faulty, CallerSeen, caller_sees, fault_of, seen_by, serving_sees, serving_use}
use Rattle.qrexec_data.specs.Sending.{agreed, most, CallerMaySend, ServingMaySend}
use Rattle.qrexec_data.specs.Reading.{IsByBytes}
use Rattle.qrexec_data.specs.Laws.{ReadsInput}
use Rattle.qrexec_data.proofs.GoingLaws.{most_fits, sessions_go_on_lem}
use Rattle.qrexec_data.proofs.AmountLaws.{sides_send_little}
use Rattle.qrexec_data.proofs.PairLaws.{Told, reads_input, sees_serving}
use Rattle.qrexec_data.proofs.SessionLaws.{caller_done}
use Rattle.qrexec_data.proofs.MaySendLaws.{caller_may_send, serving_may_send, serving_sent_all}
use Rattle.session_drive.specs.declared.sides.Sides.{Sides}
use Rattle.session_drive.specs.Sides.{Stands, done, CallerTurns, ServingTurns}
use Rattle.session_drive.specs.Driving.{HasCodes, IsNamed, IsEnd}

module _ (input : List ℕ) (service : Builtin) (codes : HasCodes service) (core : Core) (s : Sides) (h : Stands input (builtin_owes service) core s) where
  abbrev lawful : Lawful core
  lawful = h.rested.between.kept.lawful h.rested.between.honest

  asks : CallerMaySend s.caller.replies.own s.caller.requests.chunk input s.caller.inbox.got core.server.sent
  asks = subst (λ (xs : List ℕ). CallerMaySend s.caller.replies.own s.caller.requests.chunk xs s.caller.inbox.got core.server.sent) h.asks (caller_may_send s.caller core.server.sent h.calls)

  answers : ServingMaySend s.serving.answering.own s.serving.answering.chunk (builtin_owes service) s.serving.inbox.got core.client.sent
  answers = serving_may_send builtin_owes (builtin_owes service) s.serving core.client.sent h.serves

  -- what each got begins what the other sent
  up : IsPrefixOf s.serving.inbox.got core.server.sent
  up = subst (λ (xs : List ℕ). IsPrefixOf xs core.server.sent) (sym h.serving_got) lawful.right.lawful.prefix

  down : IsPrefixOf s.caller.inbox.got core.client.sent
  down = subst (λ (xs : List ℕ). IsPrefixOf xs core.client.sent) (sym h.caller_got) lawful.left.lawful.prefix

  reads : ReadsInput input (serving_sees s.serving.inbox.got)
  reads = reads_input s.caller.replies.own s.caller.requests.chunk input core.server.sent s.serving.inbox.got (agreed s.caller.replies.own s.caller.inbox.got) h.caller_speaks asks up

  tells : Told (builtin_owes service) (serving_sees s.serving.inbox.got) (caller_sees s.caller.inbox.got)
  tells = sees_serving s.serving.answering.own s.serving.answering.chunk (builtin_owes service) s.serving.inbox.got core.client.sent s.caller.inbox.got (agreed s.serving.answering.own s.serving.inbox.got) refl h.serving_speaks codes answers down

  -- so much was done at most
  pub done_little : done core ≤ 498 + 36 * length input
  done_little =
      let sent = sides_send_little s.caller.replies.own s.caller.requests.chunk s.serving.answering.own s.serving.answering.chunk input s.caller.inbox.got core.server.sent s.serving.inbox.got core.client.sent service h.caller_speaks asks up answers in
      omega (arith, sent, prefix_length core.server.got core.client.sent lawful.left.lawful.prefix, prefix_length core.client.got core.server.sent lawful.right.lawful.prefix)

  -- an outcome of the caller is the whole triple
  pub ends_with : (o : Outcome) → s.caller.replies.outcome ≡ Some o → IsEnd (builtin_owes service input) s.caller
  ends_with o is = by tells
    where
      agrees : AgreesWith (Some o) (caller_sees s.caller.inbox.got).verdict
      agrees = subst (λ (x : Option Outcome). AgreesWith x (caller_sees s.caller.inbox.got).verdict) is h.calls.read.knows.outcome

      never : (o : Outcome) → AgreesWith (Some o) (caller_sees s.caller.inbox.got).verdict → IsByBytes (Some o) → (caller_sees s.caller.inbox.got).verdict ≡ Undecided → ⊥
      never (Done code) agrees read none = let no = sym agrees ∙ none in cc
      never (Fault f) agrees read none = let no = sym agrees ∙ none in cc
      never Closed agrees read none = read
      never Gone agrees read none = read

      coded : (o : Outcome) (code : ℤ) → AgreesWith (Some o) (caller_sees s.caller.inbox.got).verdict → IsByBytes (Some o) → (caller_sees s.caller.inbox.got).verdict ≡ Exited code → o ≡ Done code
      coded (Done c) code agrees read exited = let same = sym agrees ∙ exited in cc
      coded (Fault f) code agrees read exited = let no = sym agrees ∙ exited in cc
      coded Closed code agrees read exited = absurd read
      coded Gone code agrees read exited = absurd read

      read : IsByBytes (Some o)
      read = subst IsByBytes is h.caller_read

      by : Told (builtin_owes service) (serving_sees s.serving.inbox.got) (caller_sees s.caller.inbox.got) → IsEnd (builtin_owes service input) s.caller
      by (inl none) = absurd (never o agrees read none)
      by (inr (ended, told)) =
          let input_is : (serving_sees s.serving.inbox.got).input ≡ input = reads.whole ended in
          record {
            code = is ∙ ap (λ (x : Outcome). Some x) (coded o _ agrees read (ap (λ (x : CallerSeen). x.verdict) told)) ∙ ap (λ (xs : List ℕ). Some (Done (builtin_owes service xs).code)) input_is;
            stdout = h.calls.read.knows.stdout ∙ ap (λ (x : CallerSeen). x.stdout) told ∙ ap (λ (xs : List ℕ). (builtin_owes service xs).stdout) input_is;
            stderr = h.calls.read.knows.stderr ∙ ap (λ (x : CallerSeen). x.stderr) told ∙ ap (λ (xs : List ℕ). (builtin_owes service xs).stderr) input_is;
          }

  -- ---- where nothing moves

  -- all that was sent was got, so that no ring is full
  has_room : core.client.got ≡ core.server.sent → core.server.got ≡ core.client.sent → (free (lists_of core) Server ≡ 0 → ⊥) × (free (lists_of core) Client ≡ 0 → ⊥)
  has_room up down =
      let right = size_within (order_of core.orders (written_ring Server)) in
      let left = size_within (order_of core.orders (written_ring Client)) in (
        λ full. omega (arith, full, right.0, ap (λ (xs : List ℕ). length xs) up),
        λ full. omega (arith, full, left.0, ap (λ (xs : List ℕ). length xs) down),
      )

  -- a caller that got all of a side that is done knows it
  done_knows : s.caller.replies.outcome ≡ None → core.server.got ≡ core.client.sent → (o : Outcome) → s.serving.answering.outcome ≡ Some o → ⊥
  done_knows none all (Done code) is =
      let sent = serving_sent_all builtin_owes (builtin_owes service) s.serving core.client.sent code h.serves is in
      let whole : s.caller.inbox.got ≡ flat_map written sent.all.stream = h.caller_got ∙ all ∙ sent.all.whole in
      let exit = caller_done s.serving.answering.own (min s.serving.answering.chunk (most sent.all.version)) (builtin_owes service (serving_sees s.serving.inbox.got).input) sent.all.stream h.serving_speaks.least h.serving_speaks.small (most_fits s.serving.answering.chunk sent.all.version) (codes _) sent.all.is_stream in
      let exited : (caller_sees s.caller.inbox.got).verdict ≡ Exited (builtin_owes service (serving_sees s.serving.inbox.got).input).code = ap (λ (xs : List ℕ). (caller_sees xs).verdict) whole ∙ exit in
      let undecided : (caller_sees s.caller.inbox.got).verdict ≡ Undecided = subst (λ (x : Option Outcome). AgreesWith x (caller_sees s.caller.inbox.got).verdict) none h.calls.read.knows.outcome in
      let no = sym undecided ∙ exited in cc
  done_knows none all (Fault f) is =
      let wrong : (seen_by serving_use s.serving.inbox.got).verdict ≡ Faulty f = subst (λ (x : Option Outcome). serving.AgreesWith x (seen_by serving_use s.serving.inbox.got)) is h.serves.read.serves.outcome in
      let no : Some f ≡ None = sym (ap fault_of wrong) ∙ reads.fault in cc
  done_knows none all Closed is = subst IsByBytes is h.serving_read
  done_knows none all Gone is = subst IsByBytes is h.serving_read

  going : s.caller.replies.outcome ≡ None → s.serving.answering.outcome ≡ None → core.client.got ≡ core.server.sent → core.server.got ≡ core.client.sent → ¬ (caller.IsStill s.caller × serving.IsStill s.serving.answering)
  going calls serves up down = sessions_go_on_lem Builtin builtin_owes (builtin_owes service) s.caller s.serving core.server.sent core.client.sent (record {
    calls = h.calls;
    serves = h.serves;
    caller_got = h.caller_got ∙ down;
    serving_got = h.serving_got ∙ up;
    caller_version = h.caller_speaks;
    serving_version = h.serving_speaks;
    caller_undecided = calls;
    serving_undecided = serves;
  })

more_unless : (a b : ℕ) → (b ≤ a → ⊥) → a + 1 ≤ b
more_unless a b not = by (nat_lt a b) refl
  where
    by : (t : Bool) → nat_lt a b ≡ t → a + 1 ≤ b
    by true less = grind (arith, nat_tests, less)
    by false most = absurd (not (grind (arith, nat_tests, most)))

-- a turn of each side does something while the caller knows nothing
pub round_moves : (input : List ℕ) (service : Builtin) → HasCodes service → (core : Core) (s t u : Sides) → Stands input (builtin_owes service) core s → s.caller.replies.outcome ≡ None
    → (c : CallerTurns input (builtin_owes service) core s t) → (v : ServingTurns input (builtin_owes service) c.after t u) → done core + 1 ≤ done v.after
round_moves input service codes core s t u h calls c v = more_unless (done core) (done v.after) stuck
  where
    stuck : done v.after ≤ done core → ⊥
    stuck none = by_serving s.serving.answering.outcome refl
      where
        first : done c.after ≡ done core
        first = omega (arith, none, c.grows.more, v.grows.more)

        second : done v.after ≡ done c.after
        second = omega (arith, none, c.grows.more, v.grows.more)

        down : core.server.got ≡ core.client.sent
        down = c.read_all first

        by_serving : (o : Option Outcome) → s.serving.answering.outcome ≡ o → ⊥
        by_serving (Some o) is = done_knows input service codes core s h calls down o is
        by_serving None is =
            let serves : t.serving.answering.outcome ≡ None = ap (λ (z : ServingState Builtin). z.answering.outcome) c.other ∙ is in
            let same = c.grows.same first in
            let up : core.client.got ≡ core.server.sent = sym (ap (λ (l : ChannelLists). l.client.got) same) ∙ v.read_all serves second ∙ ap (λ (l : ChannelLists). l.server.sent) same in
            let room = has_room input service codes core s h up down in
            let rests : serving.IsStill s.serving.answering ⊎ (free (lists_of core) Client ≡ 0) =
            subst (λ (z : ServingState Builtin × ChannelLists). serving.IsStill z.0.answering ⊎ (free z.1 Client ≡ 0)) (λ i. (c.other i, same i)) (v.still serves second) in
            by_still room (c.still first) rests (going input service codes core s h calls is up down)
          where
            by_still : (free (lists_of core) Server ≡ 0 → ⊥) × (free (lists_of core) Client ≡ 0 → ⊥) → caller.IsStill s.caller ⊎ (free (lists_of core) Server ≡ 0) → serving.IsStill s.serving.answering ⊎ (free (lists_of core) Client ≡ 0)
                → ¬ (caller.IsStill s.caller × serving.IsStill s.serving.answering) → ⊥
            by_still room (inl one) (inl other) never = never (one, other)
            by_still room (inr full) other never = room.0 full
            by_still room (inl one) (inr full) never = room.1 full

small_code : (code : ℤ) → IsSmallCode code → FitsSigned w32 code
small_code code small = rw small.2 (fits_signed_from_abs w32 (pos small.0) (omega (arith, small.1)))

pub named_codes : (named : Builtin) → IsNamed named → HasCodes named
named_codes named is input = small_code _ (small_codes is.name input (builtin_owes named input) (is.gives input))
