-- What a worked row states of the lists of a page.
use Rattle.std.specs.Prelude.{◌≡◌, ◌≤◌, ℕ, List, [], true, length, codes}
use Rattle.ring_words.specs.declared.page.Role.{Role}
use Rattle.end_view.specs.EndView.{EndView}
use Rattle.end_view.specs.Settled.{Settled}
use Rattle.vchan_core.specs.OneMachine.Phases.{IsIdle, payload_needed, buffer_needed}
use Rattle.vchan_rule.specs.Ends.{IsSameEnd, Pays}
use Rattle.vchan_rule.specs.Seated.{IsOpen, PageView, SeatedEnd, view}
use Rattle.tests_ring.specs.declared.row.Row.{Row}
use Rattle.tests_ring.specs.declared.row.Row.TheVariants.{Fresh, FiveBytes, FullRing, Packets, LongPacket, Events}

-- an end of this page that has sent and got nothing
abbrev pub IsNew : EndView → PageView → Role → Type 0
IsNew e page role = (e.page ≡ page.table) × (e.role ≡ role) × (e.sent ≡ []) × (e.got ≡ [])

-- what was sent and got on the left ring, and then on the right one
abbrev pub Moved : Type 0
Moved = List ℕ × List ℕ × List ℕ × List ℕ

abbrev pub moved_on : SeatedEnd → SeatedEnd → Moved
moved_on server client = ((view client).sent, (view server).got, (view server).sent, (view client).got)

-- two ends that are open and have sent and got nothing
abbrev pub AreUnused : SeatedEnd → SeatedEnd → Type 0
AreUnused server client = IsOpen server × IsOpen client × (moved_on server client ≡ ([], [], [], []))

-- two ends between their calls, which are the same as before
abbrev pub AreBetween : SeatedEnd → SeatedEnd → SeatedEnd → SeatedEnd → Type 0
AreBetween server server' client client' = IsSameEnd server server' × IsSameEnd client client' × ((view server').idle ≡ true) × ((view client').idle ≡ true)

abbrev pub IsRow : Row → Moved → Type 0
IsRow Fresh m = m ≡ ([], [], [], [])
IsRow FiveBytes m = m ≡ (codes "hello", codes "hello", [], [])
IsRow FullRing m = (length m.0 ≡ 1024) × (m.1 ≡ []) × (m.2 ≡ []) × (m.3 ≡ [])
IsRow Packets m = (length m.0 ≡ 1024) × (m.1 ≡ codes "aaaa") × (m.2 ≡ []) × (m.3 ≡ [])
IsRow LongPacket m = m ≡ ([], [], [], [])
IsRow Events m = m ≡ (codes "ab", [], [], [])

-- how many bytes those are
abbrev pub HasCounts : Settled → ℕ → ℕ → ℕ → ℕ → Type 0
HasCounts page left_sent left_got right_sent right_got = (length page.client.sent ≡ left_sent) × (length page.server.got ≡ left_got) × (length page.server.sent ≡ right_sent) × (length page.client.got ≡ right_got)

-- an end in a call that sends nothing; this buffer has room for what the call still loads
abbrev pub IsUnderWay : SeatedEnd → List ℕ → Type 0
IsUnderWay e buffer = (¬ IsIdle e.machine) × (payload_needed e.machine ≤ 0) × (buffer_needed e.machine ≤ length buffer) × Pays e.begun e.side []
