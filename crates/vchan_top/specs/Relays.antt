-- The text of a run of relays.
use Rattle.std.specs.Prelude.{ℕ, zero, suc, List, [], ◌∷◌, ◌++◌, length, codes, decimal}
use Rattle.end_view.specs.Settled.{Settled}
use Rattle.qrexec_frame.specs.Lines.{shown_bytes}
use Rattle.run_report.specs.Lines.{spaced}

-- the line of a page by its number, with how many bytes were sent and got on its left ring
abbrev pub counts_line : ℕ → ℕ → ℕ → List ℕ
counts_line number sent got = codes "page" ++ (spaced (decimal number ∷ decimal sent ∷ decimal got ∷ []) ++ 10 ∷ [])

-- the lines of these pages, which come after `before` others
abbrev pub page_lines : ℕ → List Settled → List ℕ
page_lines before [] = []
page_lines before (page ∷ pages) = counts_line (suc before) (length page.client.sent) (length page.server.got) ++ page_lines (suc before) pages

-- the lines of all pages from near to far, and the bytes that came out of the last
abbrev pub relays_text : List Settled → List ℕ → List ℕ
relays_text pages bytes = page_lines 0 pages ++ (codes "bytes" ++ (spaced (shown_bytes bytes ∷ []) ++ 10 ∷ []))

-- ---- if the same number of bytes went through each

-- the lines of the first pages, through each of which this number of bytes went
abbrev pub even_lines : ℕ → ℕ → List ℕ
even_lines bytes zero = []
even_lines bytes (suc count) = even_lines bytes count ++ counts_line (suc count) bytes bytes
