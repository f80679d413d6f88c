-- What the parts of a turn do to the two sides of a call.
use Rattle.std.proofs.Common.{◌≡◌, ◌⊎◌, inl, inr, ℕ, ◌+◌, ◌≤◌, Bool, true, false, List, [], ◌∷◌, ◌++◌, length, length-append, append-nil, take, drop, Option, Some, None, Result, Ok, Err, refl, sym, ap, subst, ◌∙◌, arith}
use Rattle.std.specs.Prelude.{ℤ, ◌↔◌, ◌==◌, nat_lt, is_none, is_some, if◌then◌else◌, IfOk, OnOk}
use Rattle.std.proofs.lemmas.List.{length-take-le}
use Rattle.list_laws.proofs.Prefixes.{prefix_all}
use Rattle.ring_words.specs.declared.page.Role.{Role}
use Rattle.ring_words.specs.declared.page.Role.TheVariants.{Server, Client}
use Rattle.vchan_io.specs.declared.faults.Memory.{Memory}
use Rattle.vchan_protocol.specs.History.Core.{Core}
use Rattle.vchan_protocol.specs.Lists.ListCall.{ChannelLists, avail, end_of, free, lists_of, sends, with_end}
use Rattle.vchan_core.specs.declared.plain.Plain.{Plain}
use Rattle.service_gate.specs.Triple.{Triple}
use Rattle.service_gate.specs.Owing.{builtin_owes}
use Rattle.qrexec_data.specs.Half.{HalfOf, Keeps, Lends}
use Rattle.qrexec_data.specs.Requests.{RequestsState}
use Rattle.qrexec_data.specs.CallerSide as caller
use Rattle.qrexec_data.specs.CallerSide.{CallerState, CallerStandsFor, LendsRequests, caller_half}
use Rattle.qrexec_data.specs.ServingSide as serving
use Rattle.qrexec_data.specs.ServingSide.{ServingState, ServingStandsFor, LendsAnswers, serving_half}
use Rattle.qrexec_data.specs.Reading.{IsByBytes}
use Rattle.qrexec_data.specs.Laws.{IsVersion}
use Rattle.service_gate.specs.declared.builtin.Builtin.{Builtin}
use Rattle.session_drive.specs.declared.sides.Sides.{Sides}
use Rattle.session_drive.specs.Page.{IsRested, Drains, Writes}
use Rattle.session_drive.specs.Sides.{Stands, done, Grows, CallerReads, CallerSends, CallerTurns, ServingReads, ServingSends, ServingTurns}
use Rattle.session_drive.proofs.MovingLaws.{got_none, sent_none}

-- ---- what ends did

none_of : (xs : List ℕ) → length xs ≡ 0 → xs ≡ []
none_of [] zero = refl
none_of (x ∷ xs) zero = cc

abbrev Gets : Core → Core → Role → List ℕ → Type 0
Gets core after who bytes = lists_of after ≡ with_end (lists_of core) who (record (end_of (lists_of core) who) { got = (end_of (lists_of core) who).got ++ bytes })

got_done : (core after : Core) (who : Role) (bytes : List ℕ) → Gets core after who bytes → done after ≡ done core + length bytes
got_done core after Server bytes lists =
    omega (arith, ap (λ (l : ChannelLists). length l.server.sent) lists, ap (λ (l : ChannelLists). length l.server.got) lists, ap (λ (l : ChannelLists). length l.client.sent) lists, ap (λ (l : ChannelLists). length l.client.got) lists, length-append core.server.got bytes)
got_done core after Client bytes lists =
    omega (arith, ap (λ (l : ChannelLists). length l.server.sent) lists, ap (λ (l : ChannelLists). length l.server.got) lists, ap (λ (l : ChannelLists). length l.client.sent) lists, ap (λ (l : ChannelLists). length l.client.got) lists, length-append core.client.got bytes)

got_grows : (core after : Core) (who : Role) (bytes : List ℕ) → Gets core after who bytes → Grows core after
got_grows core after who bytes lists =
    let all = got_done core after who bytes lists in
    record {
      more = omega (arith, all);
      same = λ is. lists ∙ ap (λ (xs : List ℕ). with_end (lists_of core) who (record (end_of (lists_of core) who) { got = (end_of (lists_of core) who).got ++ xs })) (none_of bytes (omega (arith, all, is))) ∙ sym (got_none (lists_of core) who);
    }

sent_done : (core after : Core) (who : Role) (piece : List ℕ) (count : ℕ) → count ≤ length piece → lists_of after ≡ sends (lists_of core) who piece count → done after ≡ done core + count
sent_done core after Server piece count few lists =
    omega (arith, ap (λ (l : ChannelLists). length l.server.sent) lists, ap (λ (l : ChannelLists). length l.server.got) lists, ap (λ (l : ChannelLists). length l.client.sent) lists, ap (λ (l : ChannelLists). length l.client.got) lists, length-append core.server.sent (take count piece), length-take-le count piece few)
sent_done core after Client piece count few lists =
    omega (arith, ap (λ (l : ChannelLists). length l.server.sent) lists, ap (λ (l : ChannelLists). length l.server.got) lists, ap (λ (l : ChannelLists). length l.client.sent) lists, ap (λ (l : ChannelLists). length l.client.got) lists, length-append core.client.sent (take count piece), length-take-le count piece few)

sent_grows : (core after : Core) (who : Role) (piece : List ℕ) (count : ℕ) → count ≤ length piece → lists_of after ≡ sends (lists_of core) who piece count → Grows core after
sent_grows core after who piece count few lists =
    let all = sent_done core after who piece count few lists in
    record {
      more = omega (arith, all);
      same = λ is. let zero : count ≡ 0 = omega (arith, all, is) in lists ∙ ap (λ (k : ℕ). sends (lists_of core) who piece k) zero ∙ sym (sent_none (lists_of core) who piece);
    }

grows_on : (a b c : Core) → Grows a b → Grows b c → Grows a c
grows_on a b c one two = record {
  more = omega (arith, one.more, two.more);
  same = λ is. two.same (omega (arith, one.more, two.more, is)) ∙ one.same (omega (arith, one.more, two.more, is));
}

-- ---- memory that runs out

pub on_ok : {A : Type 0} (r : Result (Unit {0}) Memory) → A → OnOk r A
on_ok (Ok v) a = a
on_ok (Err e) a = tt

pub one_ok : {A B : Type 0} (r : Result (Unit {0}) Memory) → OnOk r A → (A → B) → OnOk r B
one_ok (Ok v) a f = f a
one_ok (Err e) a f = tt

pub told : {A : Type 0} (P : A → Type 0) (r : Result A Memory) (x : A) → r ≡ Ok x → IfOk r P → P x
told {A} P r x is h = subst (λ (q : Result A Memory). IfOk q P) is h

pub both_ok : {A B C : Type 0} (r : Result (Unit {0}) Memory) → OnOk r A → OnOk r B → (A → B → C) → OnOk r C
both_ok (Ok v) a b f = f a b
both_ok (Err e) a b f = tt

-- ---- outcomes

pub none_from : {A : Type 0} (o : Option A) → is_some o ≡ false → o ≡ None
none_from None is = refl
none_from (Some x) is = cc

pub some_is : {A : Type 0} (o : Option A) → is_some o ≡ true → (x : A) × (o ≡ Some x)
some_is None is = cc
some_is (Some x) is = (x, refl)

pub some_from : {A : Type 0} (o : Option A) → is_some o ≡ true → o ≡ None → ⊥
some_from o is none = let no = ap is_some none in cc

-- ---- bytes that are lent

-- what goes of them stood before the others that wait
of_waiting : (b : Bool) (waiting piece : List ℕ) (count : ℕ) → piece ≡ (if b then waiting else []) → count ≤ length piece → (take count waiting ≡ take count piece) × (count ≤ length waiting)
of_waiting true waiting piece count is few = (ap (λ (xs : List ℕ). take count xs) (sym is), subst (λ (xs : List ℕ). count ≤ length xs) is few)
of_waiting false waiting piece count is few =
    let zero : count ≡ 0 = omega (arith, few, ap (λ (xs : List ℕ). length xs) is) in
    (ap (λ (k : ℕ). take k waiting) zero ∙ sym (ap (λ (k : ℕ). take k piece) zero), omega (arith, zero))

pub lent_few : {S : Type 0} (h : HalfOf S) (old lent : S) (piece : List ℕ) (count : ℕ) → Lends h old lent piece → count ≤ length piece → count ≤ length (h.waiting lent)
lent_few h old lent piece count lends few = (of_waiting (is_none (h.outcome old)) (h.waiting lent) piece count lends.piece_is few).1

-- ---- the caller

-- what waited for an end was read
read_all : (core : Core) (page : Plain) → IsRested core page → (avail (lists_of core) Server ≡ 0 → core.server.got ≡ core.client.sent) × (avail (lists_of core) Client ≡ 0 → core.client.got ≡ core.server.sent)
read_all core page r =
    let lawful = r.between.kept.lawful r.between.honest in (
      λ none. prefix_all core.server.got core.client.sent lawful.left.lawful.prefix (omega (arith, none)),
      λ none. prefix_all core.client.got core.server.sent lawful.right.lawful.prefix (omega (arith, none)),
    )

-- a step of the caller on its end
caller_stands : (input : List ℕ) (owed : List ℕ → Triple) (core after : Core) (s s' : Sides) → Stands input owed core s → IsRested after s'.page → s'.serving ≡ s.serving → after.client.sent ≡ core.client.sent → after.client.got ≡ core.client.got
    → CallerStandsFor s'.caller after.server.sent → s'.caller.inbox.got ≡ after.server.got → s'.caller.requests.input ≡ s.caller.requests.input → s'.caller.replies.own ≡ s.caller.replies.own
    → IsByBytes s'.caller.replies.outcome → Stands input owed after s'
caller_stands input owed core after s s' h rested other sent got calls caller_got asks own read = record {
  rested = rested;
  calls = calls;
  serves = subst (λ (z : ServingState Builtin × List ℕ). ServingStandsFor builtin_owes owed z.0 z.1) (λ i. (sym other i, sym sent i)) h.serves;
  caller_got = caller_got;
  serving_got = ap (λ (z : ServingState Builtin). z.inbox.got) other ∙ h.serving_got ∙ sym got;
  asks = asks ∙ h.asks;
  caller_speaks = subst IsVersion (sym own) h.caller_speaks;
  serving_speaks = subst (λ (z : ServingState Builtin). IsVersion z.answering.own) (sym other) h.serving_speaks;
  caller_read = read;
  serving_read = subst (λ (z : ServingState Builtin). IsByBytes z.answering.outcome) (sym other) h.serving_read;
}

module _ (input : List ℕ) (owed : List ℕ → Triple) (core : Core) (s s' : Sides) (h : Stands input owed core s) (other : s'.serving ≡ s.serving) where
  -- nothing waited
  pub caller_read_none : s'.caller ≡ s.caller → (buffer : List ℕ) → Drains core Server s'.page buffer 0 → CallerReads input owed core s s'
  caller_read_none same buffer d =
      let sent : d.after.server.sent ≡ core.server.sent = ap (λ (l : ChannelLists). l.server.sent) d.lists in
      let got : d.after.server.got ≡ core.server.got = ap (λ (l : ChannelLists). l.server.got) d.lists ∙ append-nil core.server.got in
      record {
        after = d.after;
        stands = caller_stands input owed core d.after s s' h d.rested other (ap (λ (l : ChannelLists). l.client.sent) d.lists) (ap (λ (l : ChannelLists). l.client.got) d.lists)
            (subst (λ (z : CallerState × List ℕ). CallerStandsFor z.0 z.1) (λ i. (sym same i, sym sent i)) h.calls)
            (ap (λ (c : CallerState). c.inbox.got) same ∙ h.caller_got ∙ sym got) (ap (λ (c : CallerState). c.requests.input) same) (ap (λ (c : CallerState). c.replies.own) same)
            (subst (λ (c : CallerState). IsByBytes c.replies.outcome) (sym same) h.caller_read);
        other = other;
        grows = got_grows core d.after Server [] d.lists;
        nothing = λ _. ((read_all core s.page h.rested).0 (d.none refl), same);
      }

  -- some bytes were read
  pub caller_read_some : (buffer : List ℕ) (count : ℕ) → ¬ (count ≡ 0) → Drains core Server s'.page buffer count → s'.caller.inbox.got ≡ s.caller.inbox.got ++ take count buffer
      → (s'.caller.requests ≡ s.caller.requests) × (s'.caller.replies.own ≡ s.caller.replies.own) → CallerStandsFor s'.caller core.server.sent → IsByBytes s'.caller.replies.outcome → CallerReads input owed core s s'
  caller_read_some buffer count some d got same stands read =
      let sent : d.after.server.sent ≡ core.server.sent = ap (λ (l : ChannelLists). l.server.sent) d.lists in
      let all = got_done core d.after Server (take count buffer) d.lists in
      let size = length-take-le count buffer d.within in
      record {
        after = d.after;
        stands = caller_stands input owed core d.after s s' h d.rested other (ap (λ (l : ChannelLists). l.client.sent) d.lists) (ap (λ (l : ChannelLists). l.client.got) d.lists)
            (subst (λ (xs : List ℕ). CallerStandsFor s'.caller xs) (sym sent) stands)
            (got ∙ ap (λ (xs : List ℕ). xs ++ take count buffer) h.caller_got ∙ sym (ap (λ (l : ChannelLists). l.server.got) d.lists)) (ap (λ (r : RequestsState). r.input) same.0) same.1
            read;
        other = other;
        grows = got_grows core d.after Server (take count buffer) d.lists;
        nothing = λ is. absurd (some (omega (arith, all, size, is)));
      }

  -- it sent what it had
  pub caller_sent : (lent : CallerState) (piece : List ℕ) (count : ℕ) → LendsRequests s.caller lent piece → (piece ≡ []) ↔ caller.IsStill s.caller → Writes core Server piece s'.page count
      → s'.caller ≡ record lent { requests = record lent.requests { waiting = drop count lent.requests.waiting } } → Keeps caller_half lent s'.caller → ((sent : List ℕ) → CallerStandsFor lent sent → CallerStandsFor s'.caller (sent ++ take count lent.requests.waiting))
      → CallerSends input owed core s s'
  caller_sent lent piece count lends still w gone keeps stands =
      let sent : w.after.server.sent ≡ core.server.sent ++ take count piece = ap (λ (l : ChannelLists). l.server.sent) w.lists in
      let waits : take count lent.requests.waiting ≡ take count piece = (of_waiting (is_none s.caller.replies.outcome) lent.requests.waiting piece count lends.piece_is w.few).0 in
      record {
        after = w.after;
        stands = caller_stands input owed core w.after s s' h w.rested other (ap (λ (l : ChannelLists). l.client.sent) w.lists) (ap (λ (l : ChannelLists). l.client.got) w.lists)
            (subst (λ (xs : List ℕ). CallerStandsFor s'.caller xs) (ap (λ (xs : List ℕ). core.server.sent ++ xs) waits ∙ sym sent) (stands core.server.sent (lends.stands tt core.server.sent h.calls)))
            (keeps.got ∙ lends.keeps.got ∙ h.caller_got ∙ sym (ap (λ (l : ChannelLists). l.server.got) w.lists))
            (keeps.same.input ∙ lends.keeps.same.input)
            (keeps.same.own ∙ lends.keeps.same.own)
            (subst IsByBytes (sym (ap (λ (c : CallerState). c.replies.outcome) gone ∙ lends.outcome)) h.caller_read);
        other = other;
        same = ap (λ (c : CallerState). c.replies) gone ∙ ap (λ (c : CallerState). c.replies) lends.new_is;
        grows = sent_grows core w.after Server piece count w.few w.lists;
        nothing = λ is. by (w.none (omega (arith, sent_done core w.after Server piece count w.few w.lists, is)));
      }
    where
      by : (piece ≡ []) ⊎ (free (lists_of core) Server ≡ 0) → caller.IsStill s.caller ⊎ (free (lists_of core) Server ≡ 0)
      by (inl none) = inl (still.0 none)
      by (inr full) = inr full

pub caller_turned : (input : List ℕ) (owed : List ℕ → Triple) (core : Core) (s m s' : Sides) (r : CallerReads input owed core s m) → CallerSends input owed r.after m s' → CallerTurns input owed core s s'
caller_turned input owed core s m s' r w = record {
  after = w.after;
  stands = w.stands;
  other = w.other ∙ r.other;
  grows = grows_on core r.after w.after r.grows w.grows;
  read_all = λ is. (r.nothing (first is)).0;
  still = λ is. subst (λ (z : CallerState × ChannelLists). caller.IsStill z.0 ⊎ (free z.1 Server ≡ 0)) (λ i. ((r.nothing (first is)).1 i, r.grows.same (first is) i)) (w.nothing (second is));
}
  where
    first : done w.after ≡ done core → done r.after ≡ done core
    first is = omega (arith, r.grows.more, w.grows.more, is)

    second : done w.after ≡ done core → done w.after ≡ done r.after
    second is = omega (arith, r.grows.more, w.grows.more, is)

-- ---- the side that serves

serving_stands : (input : List ℕ) (owed : List ℕ → Triple) (core after : Core) (s s' : Sides) → Stands input owed core s → IsRested after s'.page → s'.caller ≡ s.caller → after.server.sent ≡ core.server.sent → after.server.got ≡ core.server.got
    → ServingStandsFor builtin_owes owed s'.serving after.client.sent → s'.serving.inbox.got ≡ after.client.got → s'.serving.answering.own ≡ s.serving.answering.own
    → IsByBytes s'.serving.answering.outcome → Stands input owed after s'
serving_stands input owed core after s s' h rested other sent got serves serving_got own read = record {
  rested = rested;
  calls = subst (λ (z : CallerState × List ℕ). CallerStandsFor z.0 z.1) (λ i. (sym other i, sym sent i)) h.calls;
  serves = serves;
  caller_got = ap (λ (z : CallerState). z.inbox.got) other ∙ h.caller_got ∙ sym got;
  serving_got = serving_got;
  asks = ap (λ (z : CallerState). z.requests.input) other ∙ h.asks;
  caller_speaks = subst (λ (z : CallerState). IsVersion z.replies.own) (sym other) h.caller_speaks;
  serving_speaks = subst IsVersion (sym own) h.serving_speaks;
  caller_read = subst (λ (z : CallerState). IsByBytes z.replies.outcome) (sym other) h.caller_read;
  serving_read = read;
}

module _ (input : List ℕ) (owed : List ℕ → Triple) (core : Core) (s s' : Sides) (h : Stands input owed core s) (other : s'.caller ≡ s.caller) where
  -- its call is over
  pub serving_over : s'.page ≡ s.page → s'.serving ≡ s.serving → ¬ (s.serving.answering.outcome ≡ None) → ServingReads input owed core s s'
  serving_over page same over = record {
    after = core;
    stands = serving_stands input owed core core s s' h (subst (λ (p : Plain). IsRested core p) (sym page) h.rested) other refl refl
        (subst (λ (z : ServingState Builtin). ServingStandsFor builtin_owes owed z core.client.sent) (sym same) h.serves)
        (ap (λ (z : ServingState Builtin). z.inbox.got) same ∙ h.serving_got) (ap (λ (z : ServingState Builtin). z.answering.own) same)
        (subst (λ (z : ServingState Builtin). IsByBytes z.answering.outcome) (sym same) h.serving_read);
    other = other;
    grows = record { more = omega arith; same = λ _. refl };
    nothing = λ none. absurd (over none);
  }

  -- nothing waited
  pub serving_read_none : s'.serving ≡ s.serving → (buffer : List ℕ) → Drains core Client s'.page buffer 0 → ServingReads input owed core s s'
  serving_read_none same buffer d =
      let sent : d.after.client.sent ≡ core.client.sent = ap (λ (l : ChannelLists). l.client.sent) d.lists in
      let got : d.after.client.got ≡ core.client.got = ap (λ (l : ChannelLists). l.client.got) d.lists ∙ append-nil core.client.got in
      record {
        after = d.after;
        stands = serving_stands input owed core d.after s s' h d.rested other (ap (λ (l : ChannelLists). l.server.sent) d.lists) (ap (λ (l : ChannelLists). l.server.got) d.lists)
            (subst (λ (z : ServingState Builtin × List ℕ). ServingStandsFor builtin_owes owed z.0 z.1) (λ i. (sym same i, sym sent i)) h.serves)
            (ap (λ (z : ServingState Builtin). z.inbox.got) same ∙ h.serving_got ∙ sym got) (ap (λ (z : ServingState Builtin). z.answering.own) same)
            (subst (λ (z : ServingState Builtin). IsByBytes z.answering.outcome) (sym same) h.serving_read);
        other = other;
        grows = got_grows core d.after Client [] d.lists;
        nothing = λ _ _. ((read_all core s.page h.rested).1 (d.none refl), same);
      }

  -- some bytes were read
  pub serving_read_some : (buffer : List ℕ) (count : ℕ) → ¬ (count ≡ 0) → Drains core Client s'.page buffer count → s'.serving.inbox.got ≡ s.serving.inbox.got ++ take count buffer
      → s'.serving.answering.own ≡ s.serving.answering.own → ServingStandsFor builtin_owes owed s'.serving core.client.sent → IsByBytes s'.serving.answering.outcome → ServingReads input owed core s s'
  serving_read_some buffer count some d got own stands read =
      let sent : d.after.client.sent ≡ core.client.sent = ap (λ (l : ChannelLists). l.client.sent) d.lists in
      let all = got_done core d.after Client (take count buffer) d.lists in
      let size = length-take-le count buffer d.within in
      record {
        after = d.after;
        stands = serving_stands input owed core d.after s s' h d.rested other (ap (λ (l : ChannelLists). l.server.sent) d.lists) (ap (λ (l : ChannelLists). l.server.got) d.lists)
            (subst (λ (xs : List ℕ). ServingStandsFor builtin_owes owed s'.serving xs) (sym sent) stands)
            (got ∙ ap (λ (xs : List ℕ). xs ++ take count buffer) h.serving_got ∙ sym (ap (λ (l : ChannelLists). l.client.got) d.lists)) own read;
        other = other;
        grows = got_grows core d.after Client (take count buffer) d.lists;
        nothing = λ _ is. absurd (some (omega (arith, all, size, is)));
      }

  -- it sent what it had
  pub serving_sent : (lent : ServingState Builtin) (piece : List ℕ) (count : ℕ) → LendsAnswers builtin_owes s.serving lent piece → (piece ≡ []) ↔ serving.IsStill s.serving.answering → Writes core Client piece s'.page count
      → Keeps (serving_half builtin_owes) lent s'.serving → (IsByBytes lent.answering.outcome → IsByBytes s'.serving.answering.outcome)
      → ((sent : List ℕ) → ServingStandsFor builtin_owes owed lent sent → ServingStandsFor builtin_owes owed s'.serving (sent ++ take count lent.answering.waiting))
      → ServingSends input owed core s s'
  serving_sent lent piece count lends still w keeps bytes stands =
      let sent : w.after.client.sent ≡ core.client.sent ++ take count piece = ap (λ (l : ChannelLists). l.client.sent) w.lists in
      let waits : take count lent.answering.waiting ≡ take count piece = (of_waiting (is_none s.serving.answering.outcome) lent.answering.waiting piece count lends.piece_is w.few).0 in
      record {
        after = w.after;
        stands = serving_stands input owed core w.after s s' h w.rested other (ap (λ (l : ChannelLists). l.server.sent) w.lists) (ap (λ (l : ChannelLists). l.server.got) w.lists)
            (subst (λ (xs : List ℕ). ServingStandsFor builtin_owes owed s'.serving xs) (ap (λ (xs : List ℕ). core.client.sent ++ xs) waits ∙ sym sent) (stands core.client.sent (lends.stands owed core.client.sent h.serves)))
            (keeps.got ∙ lends.keeps.got ∙ h.serving_got ∙ sym (ap (λ (l : ChannelLists). l.client.got) w.lists))
            (keeps.same.own ∙ lends.keeps.same.own)
            (bytes (subst IsByBytes (sym lends.outcome) h.serving_read));
        other = other;
        grows = sent_grows core w.after Client piece count w.few w.lists;
        nothing = λ is. by (w.none (omega (arith, sent_done core w.after Client piece count w.few w.lists, is)));
      }
    where
      by : (piece ≡ []) ⊎ (free (lists_of core) Client ≡ 0) → serving.IsStill s.serving.answering ⊎ (free (lists_of core) Client ≡ 0)
      by (inl none) = inl (still.0 none)
      by (inr full) = inr full

pub serving_turned : (input : List ℕ) (owed : List ℕ → Triple) (core : Core) (s m s' : Sides) (r : ServingReads input owed core s m) → ServingSends input owed r.after m s' → ServingTurns input owed core s s'
serving_turned input owed core s m s' r w = record {
  after = w.after;
  stands = w.stands;
  other = w.other ∙ r.other;
  grows = grows_on core r.after w.after r.grows w.grows;
  read_all = λ none is. (r.nothing none (first is)).0;
  still = λ none is. subst (λ (z : ServingState Builtin × ChannelLists). serving.IsStill z.0.answering ⊎ (free z.1 Client ≡ 0)) (λ i. ((r.nothing none (first is)).1 i, r.grows.same (first is) i)) (w.nothing (second is));
}
  where
    first : done w.after ≡ done core → done r.after ≡ done core
    first is = omega (arith, r.grows.more, w.grows.more, is)

    second : done w.after ≡ done core → done w.after ≡ done r.after
    second is = omega (arith, r.grows.more, w.grows.more, is)
