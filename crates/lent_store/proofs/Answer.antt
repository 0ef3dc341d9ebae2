-- What a call by value answers, a `Stored`, taken apart: its store's machine value, what is known of it, and that it has its type. All of it
-- follows from the laws that the checker makes of the two types.
use mathlib.Core.List.{[], ◌∷◌}
use lib.Dec.{T as Holds}
use seplogic.Ra.Ura.{Ura}
use mir.Val.{Val, WT, has_ty}
use types.Logic.{Logic}
use denote.Laws.{Is}
use denote.Struct.Laws as LL
use Rattle.blocked_bitpacker.specs.declared.BlockedBitpacker.{BlockedBitpacker}
use Rattle.blocked_bitpacker.specs.declared.Stored.{Stored}
use Rattle.blocked_bitpacker.specs.contracts.BlockedBitpacker as B
use Rattle.blocked_bitpacker.proofs.BlockedBitpacker.TheLaws as B'
use Rattle.blocked_bitpacker.specs.contracts.Stored as S
use Rattle.blocked_bitpacker.proofs.Stored.TheLaws as S'

abbrev pub store_val : BlockedBitpacker → Val
store_val s = LL.val B.the_type B'.the_laws s

pub store_is : (r : Stored) (w : Val) → Is S.the_row r (w ∷ []) → Is B.the_row r.store (store_val r.store ∷ [])
store_is r w is = (LL.owed S.the_type S'.the_laws r _ is).1.0

module _ {M : Type 1} {𝓤 : Ura M} (𝓛 : Logic 𝓤) where
  pub store_typed : (s : BlockedBitpacker) → Is B.the_row s (store_val s ∷ []) → Holds (has_ty B'.mir (store_val s)) × WT (store_val s)
  store_typed s is = ((LL.lawful B.the_type B'.the_laws 𝓛).typed s _ is).0
