-- A page while it is filled: shapes of the contracts of those who put numbers into it.
use Rattle.std.specs.Prelude.{ℕ, ◌-◌, ◌≤◌, ◌≡◌, List, ◌++◌, ℤ, pos, length, take, drop, replicate}
use Rattle.entries.specs.Unspent.{stretch, page_places}
use Rattle.page_entries.specs.declared.Filling.{Filling}

-- the numbers that the page will have, where `older` are still to come
abbrev pub page_with : (wanted : ℕ) → Filling → (page older : List ℤ) → List ℤ
page_with wanted f page older = take f.put page ++ stretch f.skip (wanted - f.put) older

-- no more stand in it than are wanted, and zeros follow them
pub record Ready (wanted : ℕ) (f : Filling) (page : List ℤ) : Type 0 where
  pub long : length page ≡ page_places
  pub few : wanted ≤ page_places
  pub within : f.put ≤ wanted
  pub blank : drop f.put page ≡ replicate (page_places - f.put) (pos 0)

-- zs were the next ones to come, the newest first
pub record Filled (wanted : ℕ) (zs : List ℤ) (f : Filling) (page : List ℤ) (f' : Filling) (page' : List ℤ) : Type 0 where
  pub ready : Ready wanted f' page'
  pub same : (older : List ℤ) → page_with wanted f' page' older ≡ page_with wanted f page (zs ++ older)
