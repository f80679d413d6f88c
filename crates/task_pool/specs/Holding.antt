-- What a pass of the queue knows.
use Rattle.std.specs.Prelude.{ℕ, ◌+◌, List, [], ◌++◌}
use Rattle.task_pool.specs.declared.queue.Holding.{Holding}

-- all parts of the right to know every pass
abbrev pub all_parts : ℕ
all_parts = 1024

-- a pass with this many parts, which enqueued these tasks and has taken none
abbrev pub unused : {T : Type 0} → ℕ → List T → Holding T
unused parts enqueued = record { parts = parts; enqueued = enqueued; kept = []; taken = []; given = [] }

-- a pass to which another one came back
abbrev pub joined : {T : Type 0} → Holding T → Holding T → Holding T
joined v w = record { parts = v.parts + w.parts; enqueued = v.enqueued; kept = v.kept ++ w.kept; taken = v.taken ++ w.taken; given = v.given ++ w.given }
