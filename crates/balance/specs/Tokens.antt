-- What one token of a box does to those that a balance holds: `balance_tokens` has the definitions.
pub use Rattle.balance_tokens.specs.Tokens.{id_at, place_of, Held, Changed, held, refused_by, with_amount, with_token, without_token, sum_at, add_at, difference_at, subtract_at, change_token, and_then, left_in}
unfoldable pub use Rattle.balance_tokens.specs.Tokens.{place_from, closed_up, add_token, subtract_token, change_tokens}
