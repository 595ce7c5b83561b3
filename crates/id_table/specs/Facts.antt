-- Facts on the file of ids and on settings, by hand from document 02, [9]: "each four bytes from 33 to 126, no comma; lines end with byte 10";
-- "refused with 22 and one with two equal values with 23, form first, and the previous table stays in force".
-- Assumes nothing.
use Rattle.std.specs.Prelude.{ℕ, List, [], ◌∷◌, ◌++◌, map, replicate}
use Prim.Native.String.{String}
use Rattle.protocol.specs.Bytes.{ascii}
use Rattle.protocol.specs.Fact.{Fact}
use Rattle.id_table.specs.IdsFile.{IdsRead, ids, ids_in}
use Rattle.id_table.specs.IdsFile as I
use Rattle.id_table.specs.Settings.{begun, loaded, lent_in}
use Rattle.id_table.specs.Lent.{Lent}
use Rattle.id_table.specs.Lent as L

-- ---- files

abbrev line : String → List ℕ
line t = ascii t ++ 10 ∷ []

abbrev published : List ℕ
published = line "STAT,STA2,LIST,LIS2,SEND,SND2,RECV,RCV2,DATA,DONE,OKAY,FAIL,DENT,DNT2,QUIT"

abbrev row : List ℕ → IdsRead → Fact IdsRead
row file r = record { computed = ids_in file; paper = r }

-- the small letters
abbrev pub low : List (List ℕ)
low =
    ascii "stat" ∷ ascii "sta2" ∷ ascii "list" ∷ ascii "lis2" ∷ ascii "send" ∷ ascii "snd2" ∷ ascii "recv"
    ∷ ascii "rcv2" ∷ ascii "data" ∷ ascii "done" ∷ ascii "okay" ∷ ascii "fail" ∷ ascii "dent" ∷ ascii "dnt2" ∷ ascii "quit" ∷ []

-- the published ids, each in the place of the one before it, the first in the last one's
abbrev pub moved : List (List ℕ)
moved =
    ascii "STA2" ∷ ascii "LIST" ∷ ascii "LIS2" ∷ ascii "SEND" ∷ ascii "SND2" ∷ ascii "RECV" ∷ ascii "RCV2"
    ∷ ascii "DATA" ∷ ascii "DONE" ∷ ascii "OKAY" ∷ ascii "FAIL" ∷ ascii "DENT" ∷ ascii "DNT2" ∷ ascii "QUIT" ∷ ascii "STAT" ∷ []

abbrev low_line : List ℕ
low_line = line "stat,sta2,list,lis2,send,snd2,recv,rcv2,data,done,okay,fail,dent,dnt2,quit"

abbrev pub taken : List (Fact IdsRead)
taken =
    -- the small letters; the published ids in other places; these ids themselves
    row (published ++ low_line) (ids low)
    ∷ row (published ++ line "STA2,LIST,LIS2,SEND,SND2,RECV,RCV2,DATA,DONE,OKAY,FAIL,DENT,DNT2,QUIT,STAT") (ids moved)
    ∷ row (published ++ published)
    (ids (ascii "STAT" ∷ ascii "STA2" ∷ ascii "LIST" ∷ ascii "LIS2" ∷ ascii "SEND" ∷ ascii "SND2" ∷ ascii "RECV"
    ∷ ascii "RCV2" ∷ ascii "DATA" ∷ ascii "DONE" ∷ ascii "OKAY" ∷ ascii "FAIL" ∷ ascii "DENT" ∷ ascii "DNT2" ∷ ascii "QUIT" ∷ []))
    -- bytes 33 and 126
    ∷ row (published ++ line "!~!~,sta2,list,lis2,send,snd2,!!!!,rcv2,~~~~,done,okay,fail,dent,dnt2,~!~!")
    (ids (ascii "!~!~" ∷ ascii "sta2" ∷ ascii "list" ∷ ascii "lis2" ∷ ascii "send" ∷ ascii "snd2" ∷ ascii "!!!!"
    ∷ ascii "rcv2" ∷ ascii "~~~~" ∷ ascii "done" ∷ ascii "okay" ∷ ascii "fail" ∷ ascii "dent" ∷ ascii "dnt2" ∷ ascii "~!~!" ∷ []))
    -- STAT is spelt LIST, and LIST is spelt STAT
    ∷ row (published ++ line "LIST,STA2,STAT,LIS2,SEND,SND2,RECV,RCV2,DATA,DONE,OKAY,FAIL,DENT,DNT2,QUIT")
    (ids (ascii "LIST" ∷ ascii "STA2" ∷ ascii "STAT" ∷ ascii "LIS2" ∷ ascii "SEND" ∷ ascii "SND2" ∷ ascii "RECV"
    ∷ ascii "RCV2" ∷ ascii "DATA" ∷ ascii "DONE" ∷ ascii "OKAY" ∷ ascii "FAIL" ∷ ascii "DENT" ∷ ascii "DNT2" ∷ ascii "QUIT" ∷ []))
    ∷ []

abbrev form : List ℕ → Fact IdsRead
form file = row file (I.refused 22)

abbrev pub malformed : List (Fact IdsRead)
malformed =
    map form
    -- the last byte 10 is missing
    ((published ++ ascii "stat,sta2,list,lis2,send,snd2,recv,rcv2,data,done,okay,fail,dent,dnt2,quit")
    -- no line, one, three, an empty third
    ∷ ([])
    ∷ (10 ∷ [])
    ∷ (published)
    ∷ (low_line)
    ∷ (published ++ low_line ++ low_line)
    ∷ (published ++ low_line ++ 10 ∷ [])
    ∷ (published ++ 10 ∷ low_line)
    ∷ (10 ∷ published ++ low_line)
    -- CR before byte 10
    ∷ (published ++ ascii "stat,sta2,list,lis2,send,snd2,recv,rcv2,data,done,okay,fail,dent,dnt2,quit" ++ 13 ∷ 10 ∷ [])
    ∷ (ascii "STAT,STA2,LIST,LIS2,SEND,SND2,RECV,RCV2,DATA,DONE,OKAY,FAIL,DENT,DNT2,QUIT" ++ 13 ∷ 10 ∷ low_line)
    -- another heading: two ids exchanged, small letters, one missing, a blank
    ∷ (line "STA2,STAT,LIST,LIS2,SEND,SND2,RECV,RCV2,DATA,DONE,OKAY,FAIL,DENT,DNT2,QUIT" ++ low_line)
    ∷ (line "STAT,STA2,LIST,LIS2,SEND,SND2,RECV,RCV2,DATA,DONE,OKAY,FAIL,DENT,QUIT,DNT2" ++ low_line)
    ∷ (low_line ++ low_line)
    ∷ (low_line ++ published)
    ∷ (line "STAT,STA2,LIST,LIS2,SEND,SND2,RECV,RCV2,DATA,DONE,OKAY,FAIL,DENT,DNT2" ++ low_line)
    ∷ (line "STAT, STA2,LIST,LIS2,SEND,SND2,RECV,RCV2,DATA,DONE,OKAY,FAIL,DENT,DNT2,QUIT" ++ low_line)
    -- fourteen values, sixteen; a comma at the end, at the front; a blank behind a comma
    ∷ (published ++ line "stat,sta2,list,lis2,send,snd2,recv,rcv2,data,done,okay,fail,dent,dnt2")
    ∷ (published ++ line "stat,sta2,list,lis2,send,snd2,recv,rcv2,data,done,okay,fail,dent,dnt2,quit,more")
    ∷ (published ++ line "stat,sta2,list,lis2,send,snd2,recv,rcv2,data,done,okay,fail,dent,dnt2,quit,")
    ∷ (published ++ line ",stat,sta2,list,lis2,send,snd2,recv,rcv2,data,done,okay,fail,dent,dnt2,quit")
    ∷ (published ++ line "stat,sta2, list,lis2,send,snd2,recv,rcv2,data,done,okay,fail,dent,dnt2,quit")
    -- a value of three bytes, of five, of none
    ∷ (published ++ line "stat,sta2,lis,lis2,send,snd2,recv,rcv2,data,done,okay,fail,dent,dnt2,quit")
    ∷ (published ++ line "stat,sta2,list,lis2,send,snd2,recv,rcv2,data,done,okay,fail,dent,dnt2,qui")
    ∷ (published ++ line "stat,sta2,lists,lis2,send,snd2,recv,rcv2,data,done,okay,fail,dent,dnt2,quit")
    ∷ (published ++ line "sstat,sta2,list,lis2,send,snd2,recv,rcv2,data,done,okay,fail,dent,dnt2,quit")
    ∷ (published ++ line "stat,sta2,list,lis2,send,snd2,recv,rcv2,data,,okay,fail,dent,dnt2,quit")
    -- a byte that is no letter: a blank, a comma, 127, 31, 0, 128, 255, byte 10
    ∷ (published ++ line "stat,sta2,li t,lis2,send,snd2,recv,rcv2,data,done,okay,fail,dent,dnt2,quit")
    ∷ (published ++ line "stat,sta2,li,t,lis2,send,snd2,recv,rcv2,data,done,okay,fail,dent,dnt2,quit")
    ∷ (published ++ line ",tat,sta2,list,lis2,send,snd2,recv,rcv2,data,done,okay,fail,dent,dnt2,quit")
    ∷ (published ++ ascii "stat,sta2," ++ 127 ∷ line "ist,lis2,send,snd2,recv,rcv2,data,done,okay,fail,dent,dnt2,quit")
    ∷ (published ++ ascii "stat,sta2," ++ 31 ∷ line "ist,lis2,send,snd2,recv,rcv2,data,done,okay,fail,dent,dnt2,quit")
    ∷ (published ++ ascii "stat,sta2," ++ 0 ∷ line "ist,lis2,send,snd2,recv,rcv2,data,done,okay,fail,dent,dnt2,quit")
    ∷ (published ++ ascii "stat,sta2," ++ 128 ∷ line "ist,lis2,send,snd2,recv,rcv2,data,done,okay,fail,dent,dnt2,quit")
    ∷ (published ++ ascii "stat,sta2," ++ 255 ∷ line "ist,lis2,send,snd2,recv,rcv2,data,done,okay,fail,dent,dnt2,quit")
    ∷ (published ++ ascii "stat,sta2," ++ 10 ∷ line "ist,lis2,send,snd2,recv,rcv2,data,done,okay,fail,dent,dnt2,quit")
    ∷ (published ++ ascii "stat,sta2,list,lis2,send,snd2,recv,rcv2,data,done,okay,fail,dent,dnt2,qui" ++ 127 ∷ 10 ∷ [])
    -- form first: the last value is the first again, and another has a blank
    ∷ (published ++ line "stat,sta2,list,lis2,send,snd2,recv,rcv2,data,done,okay,fail,dent,dn 2,stat")
    ∷ (line "STAT,STA2,LIST,LIS2,SEND,SND2,RECV,RCV2,DATA,DONE,OKAY,FAIL,DENT,QUIT,DNT2" ++ line "stat,sta2,list,lis2,send,snd2,recv,rcv2,data,done,okay,fail,dent,dnt2,stat")
    ∷ (published ++ ascii "stat,sta2,list,lis2,send,snd2,recv,rcv2,data,done,okay,fail,dent,dnt2,stat")
    ∷ [])

abbrev pub doubled : List (Fact IdsRead)
doubled =
    map (λ file. row file (I.refused 23))
    -- the first again as the last; two neighbours; two in the middle; all
    ((published ++ line "stat,sta2,list,lis2,send,snd2,recv,rcv2,data,done,okay,fail,dent,dnt2,stat")
    ∷ (published ++ line "stat,stat,list,lis2,send,snd2,recv,rcv2,data,done,okay,fail,dent,dnt2,quit")
    ∷ (published ++ line "stat,sta2,list,lis2,send,snd2,recv,rcv2,data,done,okay,fail,dent,dnt2,dnt2")
    ∷ (published ++ line "stat,sta2,list,lis2,send,snd2,recv,rcv2,data,done,lis2,fail,dent,dnt2,quit")
    ∷ (published ++ line "same,same,same,same,same,same,same,same,same,same,same,same,same,same,same")
    ∷ (published ++ line "STAT,STA2,LIST,LIS2,SEND,SEND,RECV,RCV2,DATA,DONE,OKAY,FAIL,DENT,DNT2,QUIT")
    ∷ [])

-- ---- settings: the fifteen ids, then room

abbrev Answer : Type 0
Answer = List ℕ × ℕ

abbrev begin : List ℕ → Answer → Fact Answer
begin s a = record { computed = begun s; paper = a }

abbrev load : (settings file : List ℕ) → Answer → Fact Answer
load s file a = record { computed = loaded s file; paper = a }

abbrev pub settings : List (Fact Answer)
settings =
    begin (replicate 128 7) (ascii "STATSTA2LISTLIS2SENDSND2RECVRCV2DATADONEOKAYFAILDENTDNT2QUIT" ++ replicate 68 0, 0)
    ∷ begin (replicate 127 7) (replicate 127 7, 3)
    ∷ begin (replicate 129 7) (replicate 129 7, 3)
    ∷ begin [] ([], 3)
    -- a file over them; what stands behind the table stays
    ∷ load (replicate 128 7) (published ++ low_line) (ascii "statsta2listlis2sendsnd2recvrcv2datadoneokayfaildentdnt2quit" ++ replicate 68 7, 0)
    ∷ load (ascii "statsta2listlis2sendsnd2recvrcv2datadoneokayfaildentdnt2quit" ++ replicate 68 0) (published ++ published) (ascii "STATSTA2LISTLIS2SENDSND2RECVRCV2DATADONEOKAYFAILDENTDNT2QUIT" ++ replicate 68 0, 0)
    -- 3, then 22, then 23; nothing is altered
    ∷ load (replicate 127 7) (published ++ low_line) (replicate 127 7, 3)
    ∷ load (replicate 129 7) [] (replicate 129 7, 3)
    ∷ load (replicate 128 7) [] (replicate 128 7, 22)
    ∷ load (replicate 128 7) (published ++ line "stat,sta2,list,lis2,send,snd2,recv,rcv2,data,done,okay,fail,dent,dnt2,qu t") (replicate 128 7, 22)
    ∷ load (replicate 128 7) (published ++ line "stat,sta2,list,lis2,send,snd2,recv,rcv2,data,done,okay,fail,dent,dnt2,stat") (replicate 128 7, 23)
    ∷ []

-- settings that are lent: their ids as eight numbers, the lowest byte first
abbrev lend : List ℕ → Lent → Fact Lent
lend s r = record { computed = lent_in s; paper = r }

abbrev pub lending : List (Fact Lent)
lending =
    lend (ascii "STATSTA2LISTLIS2SENDSND2RECVRCV2DATADONEOKAYFAILDENTDNT2QUIT" ++ replicate 68 0)
    (L.Ids
    record {
      stat = 0x3241_5453_5441_5453;
      list = 0x3253_494c_5453_494c;
      send = 0x3244_4e53_444e_4553;
      recv = 0x3256_4352_5643_4552;
      «data» = 0x454e_4f44_4154_4144;
      okay = 0x4c49_4146_5941_4b4f;
      dent = 0x3254_4e44_544e_4544;
      quit = 0x5449_5551;
    })
    -- what stands in the room is not looked at
    ∷ lend (ascii "statsta2listlis2sendsnd2recvrcv2datadoneokayfaildentdnt2quit" ++ replicate 68 255)
    (L.Ids
    record {
      stat = 0x3261_7473_7461_7473;
      list = 0x3273_696c_7473_696c;
      send = 0x3264_6e73_646e_6573;
      recv = 0x3276_6372_7663_6572;
      «data» = 0x656e_6f64_6174_6164;
      okay = 0x6c69_6166_7961_6b6f;
      dent = 0x3274_6e64_746e_6564;
      quit = 0x7469_7571;
    })
    -- another length, then no value, then two equal ones
    ∷ lend (ascii "STATSTA2LISTLIS2SENDSND2RECVRCV2DATADONEOKAYFAILDENTDNT2QUIT" ++ replicate 67 0) (L.Refused 3)
    ∷ lend (replicate 129 0) (L.Refused 3)
    ∷ lend (replicate 128 0) (L.Refused 22)
    ∷ lend (ascii "STATSTA2LISTLIS2SENDSND2RECVRCV2DATADONEOKAYFAILDENTDNT2QU,T" ++ replicate 68 0) (L.Refused 22)
    ∷ lend (ascii "statsta2listlis2sendsnd2recvrcv2datadoneokayfaildentdn 2stat" ++ replicate 68 0) (L.Refused 22)
    ∷ lend (ascii "statsta2listlis2sendsnd2recvrcv2datadoneokayfaildentdnt2stat" ++ replicate 68 0) (L.Refused 23)
    ∷ []
