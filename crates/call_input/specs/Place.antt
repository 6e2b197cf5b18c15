-- Where a session of the call runner stands in its input, and what it does next (document 01, "Call runner"; table, "Runner").
use Rattle.std.specs.Prelude.{ℕ, zero, suc, ◌+◌, Bool, true, false, cond, eqb, ℤ, pos, negsuc}
use Rattle.call_input.specs.Counts.{clamp_len}
use Rattle.call_input.specs.declared.Next.{Next}
use Rattle.call_input.specs.declared.Next.TheVariants.{Run, Read, End, ReadFailed, WriteFailed}
use Rattle.call_input.specs.declared.Place.{Place}

abbrev pub place : (at have made : ℕ) → Next → Place
place at have made next = record { at = at; have = have; made = made; next = next }

abbrev pub at_start : Place
at_start = place 0 0 0 (Read 0)

abbrev pub goes_on : Next → Bool
goes_on Run = true
goes_on (Read c) = true
goes_on (End c) = false
goes_on ReadFailed = false
goes_on WriteFailed = false

-- C's `read` answers -1 where it failed, 0 at the end of the input, and else how many bytes it put
abbrev pub after_read : (answer : ℤ) → (code : ℕ) → Next
after_read (negsuc k) code = ReadFailed
after_read (pos zero) code = End code
after_read (pos (suc k)) code = Run

-- the read had room for so many bytes behind those that waited
abbrev pub taken : (answer : ℤ) → (room left made code : ℕ) → Place
taken answer room left made code = place 0 (left + clamp_len answer room) made (after_read answer code)

-- reading the calls of the buffer ended: 0 not yet, 1 at its end, 2 inside a call, else by that refusal. "31 .. body cut": if no more bytes come
abbrev pub next_of : (end : ℕ) → Next
next_of end = cond (eqb end 0) Run (cond (eqb end 1) (Read 0) (cond (eqb end 2) (Read 31) (End end)))

abbrev pub after_calls : (written : Bool) → (end : ℕ) → Next
after_calls written end = cond written (next_of end) WriteFailed

-- behind n calls of so many bytes
abbrev pub called : Place → (bytes n end : ℕ) → (written : Bool) → Place
called p bytes n end written = place (p.at + bytes) p.have (p.made + n) (after_calls written end)
