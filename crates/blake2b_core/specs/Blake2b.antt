-- BLAKE2b of RFC 7693: `blake2b_spec` has the definitions.
unfoldable pub use Rattle.blake2b_spec.specs.Blake2b.{tabulate, rotr, le32, le64, byte_at, iv, sigma, add, xor_rotr, mix, word, columns, diagonals, rounds, flagged, work, fold, compress, block, start, absorbed, before_last, final, blake2b, blake2b256}
