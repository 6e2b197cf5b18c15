-- What is tested before a trial of staging sizes starts (document 02, U12).
use Rattle.std.specs.Prelude.{ℕ, ◌*◌, Bool, cond, ◌&&◌, eqb, leb}
use Rattle.buffer_core.specs.Edition.{edition_1}
use Rattle.trial_core.specs.Trial.{step_limit}

-- the bytes of so many records, and of so many keys, and the numbers of so many standing calls
abbrev pub record_bytes : ℕ → ℕ
record_bytes n = n * edition_1.size

abbrev pub key_bytes : ℕ → ℕ
key_bytes n = n * 32

abbrev pub stood_numbers : ℕ → ℕ
stood_numbers n = n * 3

-- "25 above that", or "a lent buffer too short for its stated capacity": by the lengths
abbrev pub sizes_ok : (T S D room steps table staged deleted standing : ℕ) → Bool
sizes_ok T S D room steps table staged deleted standing =
    leb steps step_limit && (leb (record_bytes T) table && (leb (record_bytes S) staged && (leb (key_bytes D) deleted && leb (stood_numbers room) standing)))

-- 25, then 38 for the state 0; otherwise 0
abbrev pub refused_by : (x : ℕ) → Bool → ℕ
refused_by x ok = cond ok (cond (eqb x 0) 38 0) 25
