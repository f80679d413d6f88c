-- A drain and a write on a rested page are the calls on its lists.
use Rattle.std.proofs.Common.{◌≡◌, ◌⊎◌, inl, inr, ℕ, ◌≤◌, ◌<◌, Bool, true, false, List, [], ◌∷◌, ◌++◌, length, length-append, take, take-take, drop, refl, sym, ap, subst, ◌∙◌, arith, append-nil}
use Rattle.std.specs.Prelude.{◌==◌, min, if◌then◌else◌}
use Rattle.std.proofs.lemmas.List.{length-take-le, length-drop}
use Rattle.std.proofs.Math.Seq.{take-append_seam}
use Rattle.std.proofs.lemmas.Bool.Decides.{nat_tests}
use Rattle.ring_words.specs.declared.page.Role.{Role}
use Rattle.ring_words.specs.declared.page.Role.TheVariants.{Server, Client}
use Rattle.vchan_protocol.specs.declared.call.Answer.{Answer}
use Rattle.vchan_protocol.specs.declared.call.Answer.TheVariants.{Wrote, Full, Got, NotYet}
use Rattle.vchan_protocol.specs.declared.call.Call.TheVariants.{Write, Drain}
use Rattle.vchan_protocol.specs.declared.call.EndState.TheVariants.{Open}
use Rattle.vchan_protocol.specs.Table.Apply.{filled}
use Rattle.vchan_protocol.specs.History.Core.{Core, side_of, is_shut, bytes_loaded}
use Rattle.vchan_protocol.specs.History.WholeCall.{called, call_answer}
use Rattle.vchan_protocol.specs.History.Peer.{peer}
use Rattle.vchan_protocol.specs.Lists.ListCall.{ChannelLists, Outcome, avail, end_of, free, gets, lists_of, list_call, of_read, of_written, only, got_in, sent_out, peer_is_shut, sends, waiting, with_end}
use Rattle.vchan_protocol.specs.Lists.ListLaw.{IsTold, count_got}
use Rattle.vchan_core.specs.declared.plain.Plain.{Plain}
use Rattle.session_drive.specs.Page.{IsBetween, IsRested, Calls, Drains, Writes}

-- ---- lists

both_open : ChannelLists → Type 0
both_open channel = (channel.server.state ≡ Open) × (channel.client.state ≡ Open)

open_peer : (core : Core) (page : Plain) (who : Role) → IsRested core page → peer_is_shut (lists_of core) who ≡ false
open_peer core page Server r = ap is_shut r.opened.1
open_peer core page Client r = ap is_shut r.opened.0

-- an end whose lists alone have changed is as open as it was
still_open : (core : Core) (page : Plain) (who : Role) (sent got : List ℕ) → IsRested core page
    → ((with_end (lists_of core) who (record (end_of (lists_of core) who) { sent = sent; got = got })).server.state ≡ Open) × ((with_end (lists_of core) who (record (end_of (lists_of core) who) { sent = sent; got = got })).client.state ≡ Open)
still_open core page Server sent got r = r.opened
still_open core page Client sent got r = r.opened

rested_after : (core after : Core) (page page' : Plain) (who : Role) (sent got : List ℕ) → IsRested core page → IsBetween after page'
    → lists_of after ≡ with_end (lists_of core) who (record (end_of (lists_of core) who) { sent = sent; got = got }) → IsRested after page'
rested_after core after page page' who sent got r b lists =
    let was = still_open core page who sent got r in
    record { between = b; opened = (ap (λ (l : ChannelLists). l.server.state) lists ∙ was.0, ap (λ (l : ChannelLists). l.client.state) lists ∙ was.1) }

pub got_none : (channel : ChannelLists) (who : Role) → channel ≡ with_end channel who (record (end_of channel who) { got = (end_of channel who).got ++ [] })
got_none channel Server = ap (λ (got : List ℕ). record channel { server = record channel.server { got = got } }) (sym (append-nil channel.server.got))
got_none channel Client = ap (λ (got : List ℕ). record channel { client = record channel.client { got = got } }) (sym (append-nil channel.client.got))

pub sent_none : (channel : ChannelLists) (who : Role) (piece : List ℕ) → channel ≡ sends channel who piece 0
sent_none channel Server piece = ap (λ (sent : List ℕ). record channel { server = record channel.server { sent = sent } }) (sym (append-nil channel.server.sent))
sent_none channel Client piece = ap (λ (sent : List ℕ). record channel { client = record channel.client { sent = sent } }) (sym (append-nil channel.client.sent))

-- ---- a drain

same_count : (a b : ℕ) → Got a ≡ Got b → a ≡ b
same_count a b is = cc

same_wrote : (a b : ℕ) → Wrote a ≡ Wrote b → a ≡ b
same_wrote a b is = cc

not_wrote : (prod cons count : ℕ) → Full prod cons ≡ Wrote count → ⊥
not_wrote prod cons count is = cc

not_got : (prod cons count : ℕ) → NotYet prod cons ≡ Got count → ⊥
not_got prod cons count is = cc

-- the bytes that were loaded stand at the front of the buffer
taken_by : (n count : ℕ) (loaded there start buffer : List ℕ) → loaded ≡ take n there → n ≤ length there → n ≡ count → buffer ≡ filled start loaded → (take n there ≡ take count buffer) × (count ≤ length buffer)
taken_by n count loaded there start buffer loaded_is enough count_is buffer_is =
    let size : length loaded ≡ count = ap (λ (xs : List ℕ). length xs) loaded_is ∙ length-take-le n there enough ∙ count_is in (
      sym loaded_is ∙ sym (take-append_seam loaded (drop (length loaded) start)) ∙ ap (λ (k : ℕ). take k (filled start loaded)) size ∙ ap (λ (xs : List ℕ). take count xs) (sym buffer_is),
      omega (arith, size, ap (λ (xs : List ℕ). length xs) buffer_is, length-append loaded (drop (length loaded) start)),
    )

got_some : (core after : Core) (who : Role) (before page : Plain) (buffer : List ℕ) (count most : ℕ) → IsRested core before → IsBetween after page → lists_of after ≡ gets (lists_of core) who most
    → (take most (waiting (lists_of core) who) ≡ take count buffer) × (count ≤ length buffer) → most ≡ count → (most ≡ 0 → avail (lists_of core) who ≡ 0) → Drains core who page buffer count
got_some core after who before page buffer count most r b moved bytes count_is none = record {
  after = after;
  rested = rested_after core after before page who (end_of (lists_of core) who).sent ((end_of (lists_of core) who).got ++ take count buffer) r b lists;
  within = bytes.1;
  lists = lists;
  none = λ zero. none (count_is ∙ zero);
}
  where
    lists : lists_of after ≡ with_end (lists_of core) who (record (end_of (lists_of core) who) { got = (end_of (lists_of core) who).got ++ take count buffer })
    lists = moved ∙ ap (λ (xs : List ℕ). with_end (lists_of core) who (record (end_of (lists_of core) who) { got = (end_of (lists_of core) who).got ++ xs })) bytes.0

module _ (core : Core) (who : Role) (n : ℕ) (start : List ℕ) (before page : Plain) (buffer : List ℕ) (answer : Answer) (r : IsRested core before) (c : Calls core who (Drain n) [] start page buffer answer) (some : 0 < n) where
  abbrev there : List ℕ
  there = waiting (lists_of core) who

  abbrev after : Core
  after = called core who (Drain n) []

  abbrev most : ℕ
  most = min n (avail (lists_of core) who)

  drain_row : (b : Bool) → (avail (lists_of core) who == 0) ≡ b → list_call (lists_of core) who (Drain n) [] ≡ (if b then only (lists_of core) (of_read NotYet (lists_of core) who) else got_in (lists_of core) who (min n (avail (lists_of core) who)))
  drain_row true is = rw (is, open_peer core before who r) refl
  drain_row false is = rw is refl

  row_told : (o : Outcome) → list_call (lists_of core) who (Drain n) [] ≡ o → IsTold o.1 (call_answer core who (Drain n) [])
  row_told o is = subst (λ (o' : Outcome). IsTold o'.1 (call_answer core who (Drain n) [])) is c.follows.answer

  pub drained : (count : ℕ) → answer ≡ Got count → Drains core who page buffer count
  drained count is = by (avail (lists_of core) who == 0) refl
    where
      by : (b : Bool) → (avail (lists_of core) who == 0) ≡ b → Drains core who page buffer count
      by true none = absurd (not_got _ _ count (sym (c.answer_is ∙ row_told _ (drain_row true none)) ∙ is))
      by false there_are = got_some core after who before page buffer count most r c.between (c.follows.lists ∙ ap (λ (o : Outcome). o.0) (drain_row false there_are)) bytes enough (λ zero. omega (arith, zero, enough, some))
        where
          told : call_answer core who (Drain n) [] ≡ Got most
          told = row_told _ (drain_row false there_are)

          enough : most ≡ count
          enough = same_count most count (sym told ∙ sym c.answer_is ∙ is)

          bytes : (take most there ≡ take count buffer) × (count ≤ length buffer)
          bytes = taken_by most count (bytes_loaded (side_of after who).trail) there start buffer (c.follows.bytes ∙ ap (λ (a : Answer). take (count_got a) there) told)
              (omega (arith, length-drop (length (end_of (lists_of core) who).got) (end_of (lists_of core) (peer who)).sent)) enough c.buffer_is

  pub drained_none : ((count : ℕ) → answer ≡ Got count → ⊥) → Drains core who page buffer 0
  drained_none not = by (avail (lists_of core) who == 0) refl
    where
      by : (b : Bool) → (avail (lists_of core) who == 0) ≡ b → Drains core who page buffer 0
      by true none =
          let lists : lists_of after ≡ with_end (lists_of core) who (record (end_of (lists_of core) who) { got = (end_of (lists_of core) who).got ++ [] }) = (c.follows.lists ∙ ap (λ (o : Outcome). o.0) (drain_row true none)) ∙ got_none (lists_of core) who in
          record {
            after = after;
            rested = rested_after core after before page who (end_of (lists_of core) who).sent ((end_of (lists_of core) who).got ++ []) r c.between lists;
            within = omega arith;
            lists = lists;
            none = λ _. grind (arith, nat_tests, none);
          }
      by false there_are = absurd (not _ (c.answer_is ∙ row_told _ (drain_row false there_are)))

-- ---- a write

module _ (core : Core) (who : Role) (n : ℕ) (piece start : List ℕ) (before page : Plain) (buffer : List ℕ) (answer : Answer) (r : IsRested core before) (c : Calls core who (Write n) (take n piece) start page buffer answer) (within : n ≤ length piece) (some : n ≡ 0 → length piece ≡ 0) where
  abbrev then_core : Core
  then_core = called core who (Write n) (take n piece)

  abbrev room : ℕ
  room = min n (free (lists_of core) who)

  abbrev write_row : Bool → Bool → Outcome
  write_row true full = only (lists_of core) (Wrote 0)
  write_row false true = only (lists_of core) (of_written Full (lists_of core) who)
  write_row false false = sent_out (lists_of core) who (take n piece) room Wrote

  row_is : (none full : Bool) → (n == 0) ≡ none → (free (lists_of core) who == 0) ≡ full → list_call (lists_of core) who (Write n) (take n piece) ≡ write_row none full
  row_is true full none is = rw (open_peer core before who r, none) refl
  row_is false true none is = rw (open_peer core before who r, none, is) refl
  row_is false false none is = rw (open_peer core before who r, none, is) refl

  row_gives : (o : Outcome) → list_call (lists_of core) who (Write n) (take n piece) ≡ o → (lists_of then_core ≡ o.0) × IsTold o.1 (call_answer core who (Write n) (take n piece))
  row_gives o is = (c.follows.lists ∙ ap (λ (o' : Outcome). o'.0) is, subst (λ (o' : Outcome). IsTold o'.1 (call_answer core who (Write n) (take n piece))) is c.follows.answer)

  -- it sent nothing
  stays : lists_of then_core ≡ lists_of core → (piece ≡ []) ⊎ (free (lists_of core) who ≡ 0) → Writes core who piece page 0
  stays same why =
      let lists : lists_of then_core ≡ sends (lists_of core) who piece 0 = same ∙ sent_none (lists_of core) who piece in
      record {
        after = then_core;
        rested = rested_after core then_core before page who ((end_of (lists_of core) who).sent ++ []) (end_of (lists_of core) who).got r c.between lists;
        few = omega arith;
        lists = lists;
        none = λ _. why;
      }

  nothing : (n == 0) ≡ true → piece ≡ []
  nothing none = by piece (some (grind (arith, nat_tests, none)))
    where
      by : (xs : List ℕ) → length xs ≡ 0 → xs ≡ []
      by [] zero = refl
      by (x ∷ xs) zero = cc

  wrote_some : (count : ℕ) → lists_of then_core ≡ sends (lists_of core) who (take n piece) room → room ≡ count → 0 < room → Writes core who piece page count
  wrote_some count moved count_is more =
      let same : take room (take n piece) ≡ take count piece = take-take room n piece (omega arith) ∙ ap (λ (k : ℕ). take k piece) count_is in
      let lists : lists_of then_core ≡ sends (lists_of core) who piece count = moved ∙ ap (λ (bytes : List ℕ). with_end (lists_of core) who (record (end_of (lists_of core) who) { sent = (end_of (lists_of core) who).sent ++ bytes })) same in
      record {
        after = then_core;
        rested = rested_after core then_core before page who ((end_of (lists_of core) who).sent ++ take count piece) (end_of (lists_of core) who).got r c.between lists;
        few = omega (arith, count_is, within);
        lists = lists;
        none = λ zero. absurd (omega (arith, zero, count_is, more));
      }

  pub wrote : (count : ℕ) → answer ≡ Wrote count → Writes core who piece page count
  wrote count is = by (n == 0) (free (lists_of core) who == 0) refl refl
    where
      by : (none full : Bool) → (n == 0) ≡ none → (free (lists_of core) who == 0) ≡ full → Writes core who piece page count
      by true full none fits =
          let gives = row_gives _ (row_is true full none fits) in
          subst (λ (k : ℕ). Writes core who piece page k) (same_wrote 0 count (sym (c.answer_is ∙ gives.1) ∙ is)) (stays gives.0 (inl (nothing none)))
      by false true none fits = absurd (not_wrote _ _ count (sym (c.answer_is ∙ (row_gives _ (row_is false true none fits)).1) ∙ is))
      by false false none fits =
          let gives = row_gives _ (row_is false false none fits) in
          wrote_some count gives.0 (same_wrote room count (sym (c.answer_is ∙ gives.1) ∙ is)) (grind (arith, nat_tests, none, fits))

  pub wrote_none : ((count : ℕ) → answer ≡ Wrote count → ⊥) → Writes core who piece page 0
  wrote_none not = by (n == 0) (free (lists_of core) who == 0) refl refl
    where
      by : (none full : Bool) → (n == 0) ≡ none → (free (lists_of core) who == 0) ≡ full → Writes core who piece page 0
      by true full none fits = absurd (not _ (c.answer_is ∙ (row_gives _ (row_is true full none fits)).1))
      by false true none fits = stays (row_gives _ (row_is false true none fits)).0 (inr (grind (arith, nat_tests, fits)))
      by false false none fits = absurd (not _ (c.answer_is ∙ (row_gives _ (row_is false false none fits)).1))
