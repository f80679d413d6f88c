-- What the events of a call have done so far with the two rings of its end, by its trail.
use Rattle.std.specs.Prelude.{ℕ, ◌+◌, zero, Bool, true, false, Option, Some, None, List, [], ◌∷◌, ◌++◌, if◌then◌else◌}
use Rattle.ring_words.specs.declared.page.Role.{Role}
use Rattle.ring_words.specs.declared.page.Role.TheVariants.{Server, Client}
use Rattle.ring_words.specs.declared.page.WordName.{WordName}
use Rattle.ring_words.specs.declared.page.WordName.TheVariants.{LeftCons, LeftProd, RightCons, RightProd, CliLive, SrvLive}
use Rattle.vchan_protocol.specs.declared.op.Op.{Op}
use Rattle.vchan_protocol.specs.declared.op.Op.TheVariants.{Load, LoadByte, Store, StoreByte}
use Rattle.vchan_protocol.specs.declared.op.PastEvent.{PastEvent}
use Rattle.vchan_protocol.specs.Table.Ends.{low8, low32}

-- what a call has done so far
pub record TrailSummary : Type 0 where
  -- the consumer index of the ring that the end writes, as it was loaded last
  pub cons_seen : Option ℕ
  -- the producer indices of the ring that the end reads, as they were loaded, the last one first
  pub prods_seen : List ℕ
  -- how many bytes it stored, and the bytes that it loaded
  pub stored : ℕ
  pub loaded : List ℕ
  -- it stored its producer index, and its consumer index
  pub shown : Bool
  pub released : Bool
  -- it stored 0 in its live byte
  pub closed : Bool

-- nothing was done yet
abbrev pub empty_summary : TrailSummary
empty_summary = record { cons_seen = None; prods_seen = []; stored = 0; loaded = []; shown = false; released = false; closed = false }

-- an index is loaded: it counts if it is the peer's
abbrev pub summary_loaded : WordName → Role → ℕ → TrailSummary → TrailSummary
summary_loaded LeftCons Client index n = record n { cons_seen = Some index }
summary_loaded RightCons Server index n = record n { cons_seen = Some index }
summary_loaded LeftProd Server index n = record n { prods_seen = index ∷ n.prods_seen }
summary_loaded RightProd Client index n = record n { prods_seen = index ∷ n.prods_seen }
summary_loaded _ _ index n = n

-- a value is stored: it counts if it is an index of the end's own, or 0 in its live byte
abbrev pub summary_stored : WordName → Role → ℕ → TrailSummary → TrailSummary
summary_stored LeftProd Client value n = record n { shown = true }
summary_stored RightProd Server value n = record n { shown = true }
summary_stored LeftCons Server value n = record n { released = true }
summary_stored RightCons Client value n = record n { released = true }
summary_stored CliLive Client zero n = record n { closed = true }
summary_stored SrvLive Server zero n = record n { closed = true }
summary_stored _ _ value n = n

-- after one more event of an end in this role
abbrev pub summary_after : Role → TrailSummary → Op → ℕ → TrailSummary
summary_after role n (Load word) taken = summary_loaded word role (low32 taken) n
summary_after role n (LoadByte word at) taken = record n { loaded = n.loaded ++ low8 taken ∷ [] }
summary_after role n (Store word value) taken = summary_stored word role value n
summary_after role n (StoreByte word at) taken = record n { stored = n.stored + 1 }
summary_after role n _ taken = n

-- after more events
abbrev pub summary_along : Role → TrailSummary → List PastEvent → TrailSummary
summary_along role n [] = n
summary_along role n (event ∷ events) = summary_along role (summary_after role n event.op event.taken) events

-- what a whole trail has done
abbrev pub summary : Role → List PastEvent → TrailSummary
summary role trail = summary_along role empty_summary trail

-- how many stored bytes no index shows yet
abbrev pub unshown : TrailSummary → ℕ
unshown n = if n.shown then 0 else n.stored

-- the bytes that were loaded and whose places no index releases yet
abbrev pub unreleased : TrailSummary → List ℕ
unreleased n = if n.released then [] else n.loaded
