-- A caller keeps what it stands for.
use Rattle.std.proofs.Common.{◌≡◌, ℕ, ◌+◌, ◌-◌, ◌<◌, ◌≤◌, ◌^◌, List, [], ◌∷◌, ◌++◌, length, take, drop, refl, ap, sym, ◌∙◌, subst, arith, ◌⊎◌, inl, inr, Option, Some, None}
use Rattle.std.proofs.lemmas.List.{append-nil, length-drop, length-take-le, take-append-le}
use Rattle.std.proofs.lemmas.Bool.Decides.{nat_tests}
use Rattle.std.specs.Prelude.{true, false, Bool, min, nat_lt, ◌==◌, is_none, is_some, not, if◌then◌else◌, IsSome, ◌↔◌}
use Rattle.list_laws.proofs.Tests.{no_length, has_length, not_empty_lem}
use Rattle.list_laws.proofs.Results.{none_is}
use Rattle.qrexec_frame.specs.declared.kind.Channel.TheVariants.{Data}
use Rattle.qrexec_frame.specs.declared.message.Message.{Message}
use Rattle.qrexec_frame.specs.declared.message.Message.TheVariants.{Hello, Stdin}
use Rattle.qrexec_frame.specs.Messages.{written}
use Rattle.qrexec_frame.specs.Grammar.{Fault}
use Rattle.qrexec_frame.specs.Fronts.{front, fault_at, reading}
use Rattle.qrexec_frame.specs.Streams.{Whole, Bad, Short, Placed, Reading, Rest}
use Rattle.qrexec_data.specs.declared.outcome.SessionFault.TheVariants as fault
use Rattle.qrexec_data.specs.declared.outcome.Outcome.{Outcome}
use Rattle.qrexec_data.specs.Pieces.{In, Piece, end_of, is_input}
use Rattle.qrexec_data.specs.Seeing.{Seen, Undecided, caller_use, sees_all}
use Rattle.qrexec_data.specs.Sending.{agreed, most}
use Rattle.qrexec_data.specs.Reading.{InboxState, unread, read_messages}
use Rattle.qrexec_data.specs.Replies.{RepliesState, after_message, faulted, KnowsReplies}
use Rattle.qrexec_data.specs.Requests.{RequestsState, next_len, packed_next, packed_on, end_if, SendsInput, SendsRequests}
use Rattle.qrexec_data.specs.CallerSide.{CallerState, ReadsReply, NothingLeft, OneMessage, OneFault, IsReading, HasRead, CallerStandsFor, LendsRequests, IsStill}
use Rattle.qrexec_data.proofs.SpelledLaws.{spelled, spelled_behind, each_one, take_more, written_some}
use Rattle.qrexec_data.proofs.ReadingLaws.{ReadsNext, reading_short, reading_bad, reading_next, more_bytes}
use Rattle.qrexec_data.proofs.HearingLaws.{left_over, seen_frame, joined_piece}
use Rattle.qrexec_data.proofs.RepliesLaws.{if_true, if_false, Heard, GoesOn, Decides, placed_at, hears}
use Rattle.qrexec_data.proofs.MaySendLaws.{some_limit}

-- ---- reading

abbrev KnowsOf : RepliesState → Reading Message Fault → Type 0
KnowsOf r x = KnowsReplies r x.placed (sees_all caller_use x.placed x.ending)

-- nothing whole is left
read_all : (c : CallerState) → IsReading c → front Data (unread c.inbox) ≡ Short → HasRead c
read_all c h short =
    let S : Seen → Type 0 = λ s. KnowsReplies c.replies (read_messages c.inbox) s in
    let P : Reading Message Fault → Type 0 = KnowsOf c.replies in
    record {
      knows = subst P (sym (reading_short c.inbox h.at short)) (subst S (left_over caller_use (read_messages c.inbox) 0 (length (unread c.inbox))) h.knows);
      goes_on = λ none. h;
    }

-- a fault of the frame
read_fault : (c : CallerState) → IsReading c → (g : Fault) → front Data (unread c.inbox) ≡ Bad g
    → HasRead (record c { replies = faulted (fault.Frame (fault_at c.inbox.read g)) c.replies })
read_fault c h g bad =
    let P : Reading Message Fault → Type 0 = KnowsOf (faulted (fault.Frame (fault_at c.inbox.read g)) c.replies) in
    let undecided : (sees_all caller_use (read_messages c.inbox) (Rest 0)).verdict ≡ Undecided = rw h.undecided at h.knows.outcome in
    let seen = seen_frame caller_use (read_messages c.inbox) undecided c.inbox.read g in
    let S : Seen → Type 0 = λ s. KnowsReplies (faulted (fault.Frame (fault_at c.inbox.read g)) c.replies) (read_messages c.inbox) s in
    record {
      knows = subst P (sym (reading_bad c.inbox h.at g bad)) (subst S (sym seen) (record {
        outcome = refl;
        stdout = h.knows.stdout;
        stderr = h.knows.stderr;
        stdout_ended = h.knows.stdout_ended;
        stderr_ended = h.knows.stderr_ended;
        version = h.knows.version;
      }));
      goes_on = λ none. cc;
    }

-- one message more
read_message : (c : CallerState) → IsReading c → (m : Message) (n : ℕ) → c.inbox.read < 2 ^ 64 → front Data (unread c.inbox) ≡ Whole m n → (r : RepliesState) → r ≡ after_message m c.inbox.read c.replies
    → (new : CallerState) → new ≡ record c { inbox = record c.inbox { read = c.inbox.read + n }; replies = r }
    → (r.outcome ≡ None → IsReading new) × ((o : Outcome) → r.outcome ≡ Some o → HasRead new)
read_message c h m n small whole r is new new_is = by_heard (subst H (sym is) (hears c.replies (read_messages c.inbox) m c.inbox.read small h.knows h.undecided))
  where
    H : RepliesState → Type 0
    H x = Heard x (read_messages c.inbox) (placed_at c.inbox.read m)

    next : ReadsNext c.inbox m n
    next = reading_next c.inbox h.at m n whole

    after : CallerState
    after = record c { inbox = record c.inbox { read = c.inbox.read + n }; replies = r }

    N : CallerState → Type 0
    N x = (r.outcome ≡ None → IsReading x) × ((o : Outcome) → r.outcome ≡ Some o → HasRead x)

    by_heard : Heard r (read_messages c.inbox) (placed_at c.inbox.read m) → (r.outcome ≡ None → IsReading new) × ((o : Outcome) → r.outcome ≡ Some o → HasRead new)
    by_heard (GoesOn none knows) =
        let P : List (Placed Message) → Type 0 = λ placed. KnowsReplies r placed (sees_all caller_use placed (Rest 0)) in
        subst N (sym new_is) (
          λ _. record { undecided = none; at = record { within = next.within; whole = ap (λ x. x.ending) next.now }; knows = subst P (sym (ap (λ x. x.placed) next.now)) knows },
          λ o some. let no : None ≡ Some o = sym none ∙ some in cc,
        )
    by_heard (Decides o some knows) =
        let P : Reading Message Fault → Type 0 = KnowsOf r in
        subst N (sym new_is) (
          λ none. let no : None ≡ Some o = sym none ∙ some in cc,
          λ _ _. record { knows = subst P (sym next.all) (knows next.rest next.ending); goes_on = λ none. let no : None ≡ Some o = sym none ∙ some in cc },
        )

pub none_or_some : (o : Option Outcome) → (o ≡ None) ⊎ ((x : Outcome) × (o ≡ Some x))
none_or_some None = inl refl
none_or_some (Some x) = inr (x, refl)

pub reads_on : (old new : CallerState) (more : Bool) → old.inbox.read < 2 ^ 64 → IsReading old → ReadsReply old new more → (more ≡ true → IsReading new) × (more ≡ false → HasRead new)
reads_on old new more small h (NothingLeft short is stops) =
    let P : CallerState → Type 0 = λ c. HasRead c in (λ yes. cc, λ _. subst P (sym is) (read_all old h short))
reads_on old new more small h (OneMessage m n whole is ends) = by_outcome (none_or_some new.replies.outcome)
  where
    replies : new.replies ≡ after_message m old.inbox.read old.replies
    replies = ap (λ c. c.replies) is

    parts : new ≡ record old { inbox = record old.inbox { read = old.inbox.read + n }; replies = new.replies }
    parts = is ∙ ap (λ r. later r) (sym replies)
      where
        later : RepliesState → CallerState
        later r = record old { inbox = record old.inbox { read = old.inbox.read + n }; replies = r }

    one : (new.replies.outcome ≡ None → IsReading new) × ((o : Outcome) → new.replies.outcome ≡ Some o → HasRead new)
    one = read_message old h m n small whole new.replies replies new parts

    by_outcome : ((new.replies.outcome ≡ None) ⊎ ((x : Outcome) × (new.replies.outcome ≡ Some x))) → (more ≡ true → IsReading new) × (more ≡ false → HasRead new)
    by_outcome (inl none) = let yes : more ≡ true = ends ∙ rw none refl in (λ _. one.0 none, λ no. cc)
    by_outcome (inr some) = let no : more ≡ false = ends ∙ rw some.1 refl in (λ yes. cc, λ _. one.1 some.0 some.1)
reads_on old new more small h (OneFault g bad is stops) =
    let P : CallerState → Type 0 = λ c. HasRead c in (λ yes. cc, λ _. subst P (sym is) (read_fault old h g bad))

-- the steps of `read_one`
pub one_message : (old : CallerState) (inbox : InboxState) (replies : RepliesState) (requests : RequestsState) (m : Message) (n : ℕ) (inbox' : InboxState) (replies' : RepliesState) (more : Bool)
    → record { inbox = inbox; replies = replies; requests = requests } ≡ old → front Data (unread inbox) ≡ Whole m n → inbox' ≡ record inbox { read = inbox.read + n }
    → replies' ≡ after_message m inbox.read replies → more ≡ is_none replies'.outcome → ReadsReply old (record { inbox = inbox'; replies = replies'; requests = requests }) more
one_message old inbox replies requests m n inbox' replies' more is whole passed heard ends =
    let P : CallerState → Type 0 = λ c. ReadsReply c (record { inbox = inbox'; replies = replies'; requests = requests }) more in
    subst P is (OneMessage m n whole (λ i. record { inbox = passed i; replies = heard i; requests = requests }) ends)

pub one_fault : (old : CallerState) (inbox : InboxState) (replies : RepliesState) (requests : RequestsState) (g : Fault) (replies' : RepliesState)
    → record { inbox = inbox; replies = replies; requests = requests } ≡ old → front Data (unread inbox) ≡ Bad g
    → replies' ≡ faulted (fault.Frame (fault_at inbox.read g)) replies → ReadsReply old (record { inbox = inbox; replies = replies'; requests = requests }) false
one_fault old inbox replies requests g replies' is bad failed =
    let P : CallerState → Type 0 = λ c. ReadsReply c (record { inbox = inbox; replies = replies'; requests = requests }) false in
    subst P is (OneFault g bad (λ i. record { inbox = inbox; replies = failed i; requests = requests }) refl)

-- what the loop of `read_on` keeps
pub record KeepsOn (start now : CallerState) : Type 0 where
  pub got : now.inbox.got ≡ start.inbox.got
  pub requests : now.requests ≡ start.requests
  pub own : now.replies.own ≡ start.replies.own
  pub version : (v : ℕ) → start.replies.version ≡ Some v → now.replies.version ≡ Some v
  pub reads : IsReading start → IsReading now

pub keeps_on : (start old new : CallerState) (more : Bool) → KeepsOn start old → new.inbox.got ≡ old.inbox.got → new.requests ≡ old.requests → new.replies.own ≡ old.replies.own
    → ((v : ℕ) → old.replies.version ≡ Some v → new.replies.version ≡ Some v) → old.inbox.read < 2 ^ 64 → ReadsReply old new more → more ≡ true → KeepsOn start new
keeps_on start old new more k got requests own version small step goes = record {
  got = got ∙ k.got;
  requests = requests ∙ k.requests;
  own = own ∙ k.own;
  version = λ v is. version v (k.version v is);
  reads = λ h. (reads_on old new more small (k.reads h) step).0 goes;
}

pub none_of : (b : Bool) (o : Option Outcome) → is_some o ≡ not b → b ≡ is_none o
none_of true None is = refl
none_of true (Some o) is = cc
none_of false None is = cc
none_of false (Some o) is = refl

-- ---- sending

-- the input goes on
sends_piece : (own limit : ℕ) (r : RequestsState) (sent : List ℕ) (n : ℕ) → SendsInput own limit r sent → r.closed ≡ false → 0 < n → n ≤ limit → n ≤ length r.input - r.packed
    → SendsInput own limit (record r { packed = r.packed + n; waiting = r.waiting ++ written (Stdin (take n (drop r.packed r.input))) }) sent
sends_piece own limit r sent n s unclosed some least within =
    let p : Piece = record { stream = In; bytes = take n (drop r.packed r.input) } in
    let size : length (take n (drop r.packed r.input)) ≡ n = length-take-le n (drop r.packed r.input) (omega (arith, within, length-drop r.packed r.input)) in
    let before : s.pieces ++ end_if r.closed ≡ s.pieces = rw unclosed (append-nil s.pieces) in
    let stream : sent ++ r.waiting ≡ written (Hello own) ++ spelled s.pieces = s.stream ∙ ap (λ ps. written (Hello own) ++ spelled ps) before in
    let after : (s.pieces ++ p ∷ []) ++ end_if r.closed ≡ s.pieces ++ p ∷ [] = rw unclosed (append-nil (s.pieces ++ p ∷ [])) in
    record {
      pieces = s.pieces ++ p ∷ [];
      each = each_one is_input limit s.pieces p s.each ((refl, omega (arith, size, some), omega (arith, size, least)), tt);
      all = joined_piece In s.pieces p refl ∙ ap (λ x. x ++ take n (drop r.packed r.input)) s.all ∙ take_more r.input r.packed n s.within;
      within = omega (arith, within, s.within);
      stream = spelled_behind (written (Hello own)) sent r.waiting s.pieces p stream ∙ ap (λ ps. written (Hello own) ++ spelled ps) (sym after);
      done = λ yes. let no : false ≡ true = sym unclosed ∙ yes in cc;
    }

-- the input's end
sends_end : (own limit : ℕ) (r : RequestsState) (sent : List ℕ) → SendsInput own limit r sent → r.closed ≡ false → length r.input ≤ r.packed
    → SendsInput own limit (record r { closed = true; waiting = r.waiting ++ written (Stdin []) }) sent
sends_end own limit r sent s unclosed all =
    let before : s.pieces ++ end_if r.closed ≡ s.pieces = rw unclosed (append-nil s.pieces) in
    let stream : sent ++ r.waiting ≡ written (Hello own) ++ spelled s.pieces = s.stream ∙ ap (λ ps. written (Hello own) ++ spelled ps) before in
    record {
      pieces = s.pieces;
      each = s.each;
      all = s.all;
      within = s.within;
      stream = spelled_behind (written (Hello own)) sent r.waiting s.pieces (end_of In) stream;
      done = λ yes. omega (arith, all, s.within);
    }

sends_next : (own version : ℕ) (r : RequestsState) (sent : List ℕ) → 0 < r.chunk → SendsInput own (min r.chunk (most version)) r sent → SendsInput own (min r.chunk (most version)) (packed_next version r) sent
sends_next own version r sent some s = by_closed r.closed refl
  where
    Is : RequestsState → Type 0
    Is x = SendsInput own (min r.chunk (most version)) x sent

    by_more : r.closed ≡ false → (b : Bool) → nat_lt r.packed (length r.input) ≡ b → Is (packed_next version r)
    by_more unclosed true is =
        let less : r.packed < length r.input = grind (arith, nat_tests, is) in
        let limit = some_limit r.chunk version some in
        subst Is (sym (if_false r.closed _ _ unclosed ∙ if_true (nat_lt r.packed (length r.input)) _ _ is))
        (sends_piece own (min r.chunk (most version)) r sent (next_len version r) s unclosed (omega (arith, limit, less)) (omega arith) (omega arith))
    by_more unclosed false is =
        let all : length r.input ≤ r.packed = grind (arith, nat_tests, is) in
        subst Is (sym (if_false r.closed _ _ unclosed ∙ if_false (nat_lt r.packed (length r.input)) _ _ is)) (sends_end own (min r.chunk (most version)) r sent s unclosed all)

    by_closed : (b : Bool) → r.closed ≡ b → Is (packed_next version r)
    by_closed true is = subst Is (sym (if_true r.closed _ _ is)) s
    by_closed false is = by_more is (nat_lt r.packed (length r.input)) refl

pub sends_packed : (own : ℕ) (version : Option ℕ) (r : RequestsState) (sent : List ℕ) → 0 < r.chunk → SendsRequests own version r sent → SendsRequests own version (packed_on version r) sent
sends_packed own None r sent some s = s
sends_packed own (Some version) r sent some s = by_waiting (length r.waiting == 0) refl
  where
    Is : RequestsState → Type 0
    Is x = SendsInput own (min x.chunk (most version)) x sent

    chunk : (packed_next version r).chunk ≡ r.chunk
    chunk = same r.closed (nat_lt r.packed (length r.input))
      where
        same : (a b : Bool) → (if a then r else if b then record r { packed = r.packed + next_len version r; waiting = r.waiting ++ written (Stdin (take (next_len version r) (drop r.packed r.input))) } else record r { closed = true; waiting = r.waiting ++ written (Stdin []) }).chunk ≡ r.chunk
        same true b = refl
        same false true = refl
        same false false = refl

    by_waiting : (b : Bool) → (length r.waiting == 0) ≡ b → Is (packed_on (Some version) r)
    by_waiting true is =
        let next : SendsInput own (min (packed_next version r).chunk (most version)) (packed_next version r) sent = rw chunk (sends_next own version r sent some s) in
        subst Is (sym (if_true (length r.waiting == 0) _ _ is)) next
    by_waiting false is = subst Is (sym (if_false (length r.waiting == 0) _ _ is)) s

-- the bytes that `front` returns
reads_still : (c : CallerState) (r : RequestsState) → HasRead c → HasRead (record c { requests = r })
reads_still c r h = record { knows = h.knows; goes_on = λ none. let g = h.goes_on none in record { undecided = g.undecided; at = g.at; knows = g.knows } }

-- the same input, in messages as large
record KeepsInput (a b : RequestsState) : Type 0 where
  chunk : b.chunk ≡ a.chunk
  input : b.input ≡ a.input

keeps_if : (b : Bool) (r x y : RequestsState) → KeepsInput r x → KeepsInput r y → KeepsInput r (if b then x else y)
keeps_if true r x y h k = h
keeps_if false r x y h k = k

keeps_packed : (version : Option ℕ) (r : RequestsState) → KeepsInput r (packed_on version r)
keeps_packed None r = record { chunk = refl; input = refl }
keeps_packed (Some version) r =
    keeps_if (length r.waiting == 0) r _ _
    (keeps_if r.closed r _ _ (record { chunk = refl; input = refl }) (keeps_if (nat_lt r.packed (length r.input)) r _ _ (record { chunk = refl; input = refl }) (record { chunk = refl; input = refl })))
    (record { chunk = refl; input = refl })

pub stands_packed : (c : CallerState) (sent : List ℕ) → CallerStandsFor c sent → CallerStandsFor (record c { requests = packed_on c.replies.version c.requests }) sent
stands_packed c sent s = record {
  chunk = let N : ℕ → Type 0 = λ n. 0 < n in subst N (sym (keeps_packed c.replies.version c.requests).chunk) s.chunk;
  read = reads_still c (packed_on c.replies.version c.requests) s.read;
  sends = sends_packed c.replies.own c.replies.version c.requests sent s.chunk s.sends;
}

pub lends : (old : CallerState) (r : RequestsState) (piece : List ℕ) → old.replies.outcome ≡ None → r ≡ packed_on old.replies.version old.requests → piece ≡ r.waiting
    → LendsRequests old (record old { requests = r }) piece
lends old r piece none is lent =
    let yes : is_none old.replies.outcome ≡ true = rw none refl in
    let kept = keeps_packed old.replies.version old.requests in
    record {
      piece_is = lent ∙ sym (if_true (is_none old.replies.outcome) _ _ yes);
      new_is = ap (λ x. later x) (is ∙ sym (if_true (is_none old.replies.outcome) _ _ yes));
      keeps = record { same = record { own = refl; chunk = ap (λ x. x.chunk) is ∙ kept.chunk; input = ap (λ x. x.input) is ∙ kept.input }; got = refl };
      outcome = refl;
      stands = λ _ sent s. let P : RequestsState → Type 0 = λ x. CallerStandsFor (record old { requests = x }) sent in subst P (sym is) (stands_packed old sent s);
    }
  where
    later : RequestsState → CallerState
    later x = record old { requests = x }

pub still : (c : CallerState) → c.replies.outcome ≡ None → ((packed_on c.replies.version c.requests).waiting ≡ []) ↔ IsStill c
still c none = by_version c.replies.version refl
  where
    By : Option ℕ → Type 0
    By v = ((packed_on v c.requests).waiting ≡ []) ↔ IsStill c

    nothing_decided : IsSome c.replies.outcome → ⊥
    nothing_decided some = none_is c.replies.outcome none some

    by_closed : (version : ℕ) → c.replies.version ≡ Some version → c.requests.waiting ≡ [] → (b : Bool) → c.requests.closed ≡ b → ((packed_next version c.requests).waiting ≡ []) ↔ IsStill c
    by_closed version is empty true closed =
        let same : packed_next version c.requests ≡ c.requests = if_true c.requests.closed _ _ closed in
        (λ h. inr (inl (closed, empty)), λ h. ap (λ r. r.waiting) same ∙ empty)
    by_closed version is empty false closed = by_more (nat_lt c.requests.packed (length c.requests.input)) refl
      where
        not_still : IsStill c → ⊥
        not_still (inl some) = nothing_decided some
        not_still (inr (inl all)) = let no : false ≡ true = sym closed ∙ all.0 in cc
        not_still (inr (inr waits)) = let no : None ≡ Some version = sym waits.0 ∙ is in cc

        by_more : (b : Bool) → nat_lt c.requests.packed (length c.requests.input) ≡ b → ((packed_next version c.requests).waiting ≡ []) ↔ IsStill c
        by_more true more =
            let r : packed_next version c.requests ≡ record c.requests { packed = c.requests.packed + next_len version c.requests; waiting = c.requests.waiting ++ written (Stdin (take (next_len version c.requests) (drop c.requests.packed c.requests.input))) }
            = if_false c.requests.closed _ _ closed ∙ if_true (nat_lt c.requests.packed (length c.requests.input)) _ _ more in
            (λ h. absurd (not_empty_lem c.requests.waiting _ (written_some (record { stream = In; bytes = take (next_len version c.requests) (drop c.requests.packed c.requests.input) })) (sym (ap (λ x. x.waiting) r) ∙ h)), λ h. absurd (not_still h))
        by_more false more =
            let r : packed_next version c.requests ≡ record c.requests { closed = true; waiting = c.requests.waiting ++ written (Stdin []) }
            = if_false c.requests.closed _ _ closed ∙ if_false (nat_lt c.requests.packed (length c.requests.input)) _ _ more in
            (λ h. absurd (not_empty_lem c.requests.waiting _ (written_some (end_of In)) (sym (ap (λ x. x.waiting) r) ∙ h)), λ h. absurd (not_still h))

    by_waiting : (version : ℕ) → c.replies.version ≡ Some version → (b : Bool) → (length c.requests.waiting == 0) ≡ b → By (Some version)
    by_waiting version is true empty =
        let P : RequestsState → Type 0 = λ r. (r.waiting ≡ []) ↔ IsStill c in
        subst P (sym (if_true (length c.requests.waiting == 0) _ _ empty)) (by_closed version is (no_length c.requests.waiting empty) c.requests.closed refl)
    by_waiting version is false some =
        let P : RequestsState → Type 0 = λ r. (r.waiting ≡ []) ↔ IsStill c in
        subst P (sym (if_false (length c.requests.waiting == 0) _ _ some)) (λ h. absurd (has_length c.requests.waiting some h), λ h. not_empty h)
      where
        not_empty : IsStill c → c.requests.waiting ≡ []
        not_empty (inl one) = absurd (nothing_decided one)
        not_empty (inr (inl all)) = all.1
        not_empty (inr (inr waits)) = waits.1

    by_version : (v : Option ℕ) → c.replies.version ≡ v → By c.replies.version
    by_version None is = let P : Option ℕ → Type 0 = By in subst P (sym is) (λ h. inr (inr (is, h)), λ h. empty h)
      where
        empty : IsStill c → c.requests.waiting ≡ []
        empty (inl one) = absurd (nothing_decided one)
        empty (inr (inl all)) = all.1
        empty (inr (inr waits)) = waits.1
    by_version (Some version) is = let P : Option ℕ → Type 0 = By in subst P (sym is) (by_waiting version is (length c.requests.waiting == 0) refl)

-- the answers of `front` if there is no outcome
pub none_if : (o : Option Outcome) → is_some o ≡ false → o ≡ None
none_if None is = refl
none_if (Some x) is = cc

pub lends_inside : (old inside : CallerState) (r : RequestsState) (version : Option ℕ) (piece : List ℕ) → inside ≡ old → is_some inside.replies.outcome ≡ false → version ≡ inside.replies.version
    → r ≡ packed_on version inside.requests → piece ≡ r.waiting → LendsRequests old (record inside { requests = r }) piece × ((piece ≡ []) ↔ IsStill old)
lends_inside old inside r version piece same none agreed packed lent =
    let is : r ≡ packed_on inside.replies.version inside.requests = packed ∙ ap (λ v. packed_on v inside.requests) agreed in
    let P : CallerState → Type 0 = λ c. LendsRequests c (record inside { requests = r }) piece × ((piece ≡ []) ↔ IsStill c) in
    let s = still inside (none_if inside.replies.outcome none) in
    let w : piece ≡ (packed_on inside.replies.version inside.requests).waiting = lent ∙ ap (λ x. x.waiting) is in
    subst P same (lends inside r piece (none_if inside.replies.outcome none) is lent, (λ h. s.0 (sym w ∙ h), λ h. w ∙ s.1 h))

-- ---- taking

-- more bytes came
reads_more : (c : CallerState) (piece : List ℕ) → IsReading c → IsReading (record c { inbox = record c.inbox { got = c.inbox.got ++ piece } })
reads_more c piece h =
    let same : take c.inbox.read (c.inbox.got ++ piece) ≡ take c.inbox.read c.inbox.got = take-append-le c.inbox.read c.inbox.got piece h.at.within in
    let P : List ℕ → Type 0 = λ bytes. KnowsReplies c.replies (reading Data bytes).placed (sees_all caller_use (reading Data bytes).placed (Rest 0)) in
    record { undecided = h.undecided; at = more_bytes c.inbox piece h.at; knows = subst P (sym same) h.knows }

-- a version came, or it was there
sends_agreed : (own : ℕ) (old new : Option ℕ) (r : RequestsState) (sent : List ℕ) → ((v : ℕ) → old ≡ Some v → new ≡ Some v) → SendsRequests own old r sent → SendsRequests own new r sent
sends_agreed own None None r sent kept s = s
sends_agreed own None (Some version) r sent kept s = record {
  pieces = [];
  each = tt;
  all = rw s.none refl;
  within = rw s.none (omega arith);
  stream = s.stream ∙ rw s.unclosed (sym (append-nil (written (Hello own))));
  done = λ yes. let no : false ≡ true = sym s.unclosed ∙ yes in cc;
}
sends_agreed own (Some version) new r sent kept s =
    let P : Option ℕ → Type 0 = λ v. SendsRequests own v r sent in
    subst P (sym (kept version refl)) s

-- a caller that reads more bytes
pub takes : (old inside new : CallerState) (inbox : InboxState) (sent piece : List ℕ) → inside ≡ old → is_some inside.replies.outcome ≡ false → inbox ≡ record inside.inbox { got = inside.inbox.got ++ piece }
    → (new.requests ≡ inside.requests) × (new.replies.own ≡ inside.replies.own) → ((v : ℕ) → inside.replies.version ≡ Some v → new.replies.version ≡ Some v)
    → (IsReading (record inside { inbox = inbox }) → HasRead new) → CallerStandsFor old sent → CallerStandsFor new sent
takes old inside new inbox sent piece same undecided came kept version read stands =
    let A : CallerState → Type 0 = λ c. CallerStandsFor c sent in
    let s : CallerStandsFor inside sent = subst A (sym same) stands in
    let P : InboxState → Type 0 = λ i. IsReading (record inside { inbox = i }) in
    record {
      chunk = rw kept.0 s.chunk;
      read = read (subst P (sym came) (reads_more inside piece (s.read.goes_on (none_if inside.replies.outcome undecided))));
      sends = rw (kept.0, kept.1) (sends_agreed inside.replies.own inside.replies.version new.replies.version inside.requests sent version s.sends);
    }
