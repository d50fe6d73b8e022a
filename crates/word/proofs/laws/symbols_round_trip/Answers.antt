use Rattle.word.proofs.Digits.{packed_symbols, symbols_packed}
use Rattle.word.proofs.laws.symbols_round_trip.Goals as goal

pub returns : goal.returns
returns c = record { word = packed_symbols; symbols = symbols_packed }
