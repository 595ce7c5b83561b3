-- A record's kind, by its first byte. Assumes nothing.
use Prim.Native.Nat.{ℕ}
use Rattle.replay_records.specs.declared.Kind.{Kind}
use Rattle.replay_records.specs.declared.Kind.TheVariants as K

abbrev pub byte_of : Kind → ℕ
byte_of K.Blank = 0
byte_of K.List = 1
byte_of K.Call = 2
byte_of K.Read = 3
byte_of K.Write = 4
byte_of K.Close = 5
byte_of K.Answer = 6
byte_of K.End = 7
byte_of K.Other = 8
