-- The keys of the settings, and the words for them.
use Rattle.std.specs.Prelude.{ℕ, List, codes}
use Rattle.radio_keys.specs.declared.key.Key.{Key}
use Rattle.radio_keys.specs.declared.key.Key.TheVariants.{SourcePassword, AdminUser, AdminPassword, RelayUser, RelayPassword, DenyIp, AllowIp, Listen}
use Rattle.radio_keys.specs.declared.key.Key.TheVariants.{Address, Port, Workers, ProxyFrom, Limits, Clients, Sources, QueueSize, BurstSize, SourceTimeout}
use Rattle.radio_keys.specs.declared.key.Key.TheVariants.{HeaderTimeout, Web, AllowOrigin, IcecastStatus, Page, CacheControl, BrowserCommands, LogPolls, Mount, MountName, Username, Password, MaxListeners, MaxListenerDuration}
use Rattle.radio_keys.specs.declared.key.Key.TheVariants.{FallbackMount, FallbackOverride, FallbackWhenFull, Hidden, Mp3MetadataInterval, StreamName, Genre}
use Rattle.radio_keys.specs.declared.key.Key.TheVariants.{Htpasswd, AllowDuplicateUsers, Relay, Server, LocalMount, OnDemand, Slave, MasterServer}
use Rattle.radio_keys.specs.declared.key.Key.TheVariants.{StreamDescription, StreamUrl, Bitrate, PublicUrl, IcecastHeads}
use Rattle.radio_keys.specs.declared.key.Key.TheVariants.{MasterPort, MasterUsername, MasterPassword, MasterUpdateInterval}

-- the word for a key in the settings
unfoldable pub word : Key → List ℕ
word SourcePassword = codes "source-password"
word AdminUser = codes "admin-user"
word AdminPassword = codes "admin-password"
word RelayUser = codes "relay-user"
word RelayPassword = codes "relay-password"
word DenyIp = codes "deny-ip"
word AllowIp = codes "allow-ip"
word Listen = codes "listen"
word Address = codes "address"
word Port = codes "port"
word Workers = codes "workers"
word ProxyFrom = codes "proxy-from"
word Limits = codes "limits"
word Clients = codes "clients"
word Sources = codes "sources"
word QueueSize = codes "queue-size"
word BurstSize = codes "burst-size"
word SourceTimeout = codes "source-timeout"
word HeaderTimeout = codes "header-timeout"
word Web = codes "web"
word AllowOrigin = codes "allow-origin"
word IcecastStatus = codes "icecast-status"
word Page = codes "page"
word PublicUrl = codes "public-url"
word CacheControl = codes "cache-control"
word BrowserCommands = codes "browser-commands"
word LogPolls = codes "log-polls"
word IcecastHeads = codes "icecast-heads"
word Mount = codes "mount"
word MountName = codes "mount-name"
word Username = codes "username"
word Password = codes "password"
word MaxListeners = codes "max-listeners"
word MaxListenerDuration = codes "max-listener-duration"
word FallbackMount = codes "fallback-mount"
word FallbackOverride = codes "fallback-override"
word FallbackWhenFull = codes "fallback-when-full"
word Hidden = codes "hidden"
word Mp3MetadataInterval = codes "mp3-metadata-interval"
word StreamName = codes "stream-name"
word Genre = codes "genre"
word StreamDescription = codes "stream-description"
word StreamUrl = codes "stream-url"
word Bitrate = codes "bitrate"
word Htpasswd = codes "htpasswd"
word AllowDuplicateUsers = codes "allow_duplicate_users"
word Relay = codes "relay"
word Server = codes "server"
word LocalMount = codes "local-mount"
word OnDemand = codes "on-demand"
word Slave = codes "slave"
word MasterServer = codes "master-server"
word MasterPort = codes "master-port"
word MasterUsername = codes "master-username"
word MasterPassword = codes "master-password"
word MasterUpdateInterval = codes "master-update-interval"
