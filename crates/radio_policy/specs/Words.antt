use Rattle.std.specs.Prelude.{ℕ, List, codes, Option, Some, None}
use Rattle.radio_policy.specs.declared.rule.Rule.{Rule}
use Rattle.radio_policy.specs.declared.rule.Rule.TheVariants.{AddressDenied, AddressNotAllowed, TooManyClients, BadMount, SourcePassword}
use Rattle.radio_policy.specs.declared.rule.Rule.TheVariants.{TooManySources, MountInUse}
use Rattle.radio_policy.specs.declared.rule.Rule.TheVariants.{ContentType, NoMount, ListenerPassword, UserTwice, NotLive, MountFull, FallbackDepth}
use Rattle.radio_policy.specs.declared.rule.Rule.TheVariants.{NumbersSpent, BadHead, BadMethod}
use Rattle.radio_policy.specs.declared.rule.Rule.TheVariants.{NoCommand, AdminPassword, RelayPassword, MissingArgument, NoDestination, SameMount, NoClient, NoUsers, NoUser}
use Rattle.radio_policy.specs.declared.rule.Rule.TheVariants.{Lagged, TimeOver, HeaderTimeout, SourceSilent, Killed, SourceKilled}
use Rattle.radio_policy.specs.declared.rule.Status.{Status}
use Rattle.radio_policy.specs.declared.rule.Status.TheVariants.{BadRequest, Unauthorized, Forbidden, NotFound}

-- the name of a rule, as answers and transcripts have it
-- rule: Answer to a denial
abbrev pub word_of : Rule → List ℕ
word_of AddressDenied = codes "address-denied"
word_of AddressNotAllowed = codes "address-not-allowed"
word_of TooManyClients = codes "too-many-clients"
word_of BadMount = codes "bad-mount"
word_of SourcePassword = codes "source-password"
word_of TooManySources = codes "too-many-sources"
word_of MountInUse = codes "mount-in-use"
word_of ContentType = codes "content-type"
word_of NoMount = codes "no-mount"
word_of ListenerPassword = codes "listener-password"
word_of UserTwice = codes "user-twice"
word_of NotLive = codes "not-live"
word_of MountFull = codes "mount-full"
word_of FallbackDepth = codes "fallback-depth"
word_of NoCommand = codes "no-command"
word_of AdminPassword = codes "admin-password"
word_of RelayPassword = codes "relay-password"
word_of MissingArgument = codes "missing-argument"
word_of NoDestination = codes "no-destination"
word_of SameMount = codes "same-mount"
word_of NoClient = codes "no-client"
word_of NoUsers = codes "no-users"
word_of NoUser = codes "no-user"
word_of NumbersSpent = codes "numbers-spent"
word_of BadHead = codes "bad-head"
word_of BadMethod = codes "bad-method"
word_of Lagged = codes "lagged"
word_of TimeOver = codes "time-over"
word_of HeaderTimeout = codes "header-timeout"
word_of SourceSilent = codes "source-silent"
word_of Killed = codes "killed"
word_of SourceKilled = codes "source-killed"

-- the status of the answer to a denial by the rule; a rule by which nothing is denied in an answer has none
-- rule: Answer to a denial
abbrev pub status_of : Rule → Option Status
status_of AddressDenied = None
status_of AddressNotAllowed = None
status_of TooManyClients = Some Forbidden
status_of BadMount = Some BadRequest
status_of SourcePassword = Some Unauthorized
status_of TooManySources = Some Forbidden
status_of MountInUse = Some Forbidden
status_of ContentType = Some Forbidden
status_of NoMount = Some NotFound
status_of ListenerPassword = Some Unauthorized
status_of UserTwice = Some Forbidden
status_of NotLive = Some NotFound
status_of MountFull = Some Forbidden
status_of FallbackDepth = Some NotFound
status_of NoCommand = Some NotFound
status_of AdminPassword = Some Unauthorized
status_of RelayPassword = Some Unauthorized
status_of MissingArgument = Some BadRequest
status_of NoDestination = Some NotFound
status_of SameMount = Some BadRequest
status_of NoClient = Some NotFound
status_of NoUsers = Some NotFound
status_of NoUser = Some NotFound
status_of NumbersSpent = Some Forbidden
status_of BadHead = Some BadRequest
status_of BadMethod = Some BadRequest
status_of Lagged = None
status_of TimeOver = None
status_of HeaderTimeout = None
status_of SourceSilent = None
status_of Killed = None
status_of SourceKilled = None
