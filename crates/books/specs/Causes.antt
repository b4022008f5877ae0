-- The number and the values of each refusal.
use Rattle.books.specs.declared.fault.BookFault.{BookFault}
use Rattle.books.specs.declared.fault.BookFault.TheVariants.{Ring, Play, TakeBack, Verdict}
use Rattle.books.specs.declared.fault.OpeningFault.{OpeningFault}
use Rattle.books.specs.declared.fault.OpeningFault.TheVariants.{Limit as NoLimit, Held, Small, Memory}
use Rattle.books.specs.declared.fault.PlayFault.{PlayFault}
use Rattle.books.specs.declared.fault.RingFault.{RingFault}
use Rattle.books.specs.declared.fault.RingFault.TheVariants.{Form, Limit, Again, Register}
use Rattle.books.specs.declared.fault.TakeBackFault.{TakeBackFault}
use Rattle.books.specs.declared.fault.TakeBackFault.TheVariants.{Leads as NoneToTake}
use Rattle.books.specs.declared.fault.VerdictFault.{VerdictFault}
use Rattle.books.specs.declared.fault.VerdictFault.TheVariants.{Leads, Head, Length}
use Rattle.causes.specs.declared.Cause.{Cause}
use Rattle.causes.specs.declared.Values.TheVariants.{None, One, Two}
use Rattle.registers.specs.Causes.{cause as register_cause}

-- a want of memory is none of the numbered causes
abbrev pub opening_cause : OpeningFault → Cause
opening_cause NoLimit = record { number = 13; values = None }
opening_cause Held = record { number = 14; values = None }
opening_cause Small = record { number = 15; values = None }
opening_cause Memory = record { number = 0; values = None }

abbrev pub ring_cause : RingFault → Cause
ring_cause Form = record { number = 16; values = None }
ring_cause Limit = record { number = 17; values = None }
ring_cause (Again i j) = record { number = 18; values = Two i j }
ring_cause (Register e) = register_cause e

-- that of the lead that was turned down
abbrev pub play_cause : PlayFault → Cause
play_cause e = ring_cause e.fault

abbrev pub take_back_cause : TakeBackFault → Cause
take_back_cause NoneToTake = record { number = 19; values = None }

abbrev pub verdict_cause : VerdictFault → Cause
verdict_cause Leads = record { number = 20; values = None }
verdict_cause Head = record { number = 21; values = None }
verdict_cause (Length n) = record { number = 22; values = One n }

abbrev pub book_cause : BookFault → Cause
book_cause (Ring e) = ring_cause e
book_cause (Play e) = play_cause e
book_cause (TakeBack e) = take_back_cause e
book_cause (Verdict e) = verdict_cause e
