-- Numbers and names of the faults of packets (own).
use Rattle.std.specs.Prelude.{ℕ, List, codes}
use Rattle.vid_base.specs.declared.fault.PacketFault.{PacketFault}
use Rattle.vid_base.specs.declared.fault.PacketFault.TheVariants.{Ended, NotData, Reserved, RunTooLong, BadAlphabet, TokenPastEnd, FirstNotKey, KeyTooFar, NotIdent, Version, BadSize, BadRate, PixelFormat, NotComment, CommentLength, NotSetup, Matrices, MatrixIndex, Ramp, TreeDeep, TreeLeaves, TooLarge}

-- the number of a fault, 1 to 24
abbrev pub number_of : PacketFault → ℕ
number_of Ended = 1
number_of NotData = 2
number_of Reserved = 3
number_of RunTooLong = 4
number_of BadAlphabet = 5
number_of TokenPastEnd = 6
number_of FirstNotKey = 7
number_of KeyTooFar = 8
number_of NotIdent = 10
number_of Version = 11
number_of BadSize = 12
number_of BadRate = 13
number_of PixelFormat = 14
number_of NotComment = 16
number_of CommentLength = 17
number_of NotSetup = 18
number_of Matrices = 19
number_of MatrixIndex = 20
number_of Ramp = 21
number_of TreeDeep = 22
number_of TreeLeaves = 23
number_of TooLarge = 24

-- the characters of a fault's name
abbrev pub name_of : PacketFault → List ℕ
name_of Ended = codes "Ended"
name_of NotData = codes "NotData"
name_of Reserved = codes "Reserved"
name_of RunTooLong = codes "RunTooLong"
name_of BadAlphabet = codes "BadAlphabet"
name_of TokenPastEnd = codes "TokenPastEnd"
name_of FirstNotKey = codes "FirstNotKey"
name_of KeyTooFar = codes "KeyTooFar"
name_of NotIdent = codes "NotIdent"
name_of Version = codes "Version"
name_of BadSize = codes "BadSize"
name_of BadRate = codes "BadRate"
name_of PixelFormat = codes "PixelFormat"
name_of NotComment = codes "NotComment"
name_of CommentLength = codes "CommentLength"
name_of NotSetup = codes "NotSetup"
name_of Matrices = codes "Matrices"
name_of MatrixIndex = codes "MatrixIndex"
name_of Ramp = codes "Ramp"
name_of TreeDeep = codes "TreeDeep"
name_of TreeLeaves = codes "TreeLeaves"
name_of TooLarge = codes "TooLarge"
